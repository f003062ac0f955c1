-- What bytes a text is made of, where lines and words are cut.
use Rattle.std.specs.Prelude.{ℕ, ◌<◌, Bool, not, ◌&&◌, List, ◌==◌, nat_le, IsTrue, slice_index}
use Rattle.std.specs.List.{list_all}

-- every byte of the text passes the test
abbrev pub Only : (ℕ → Bool) → List ℕ → Type 0
Only test text = IsTrue (list_all test text)

-- the byte doesn't stand in the text
abbrev pub Lacks : ℕ → List ℕ → Type 0
Lacks byte text = Only (λ b. not (b == byte)) text

-- printable ASCII, the blank included
abbrev pub is_printable : ℕ → Bool
is_printable b = nat_le 0x20 b && nat_le b 0x7e

abbrev pub IsPrintable : List ℕ → Type 0
IsPrintable text = Only is_printable text

abbrev pub AreBytes : List ℕ → Type 0
AreBytes bytes = (i : ℕ) → slice_index bytes i < 256
