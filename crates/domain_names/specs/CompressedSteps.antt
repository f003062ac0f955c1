-- What stands at a place lies within the value, and a pointer leads below its part.
use Rattle.std.specs.Prelude.{ℕ, ◌+◌, ◌<◌, ◌≤◌, List, [], ◌∷◌, ◌++◌, length}
use Rattle.domain_names.specs.declared.compressed.Piece.{Piece}
use Rattle.domain_names.specs.declared.compressed.Piece.TheVariants.{End, Label, Pointer, Bad}

abbrev pub HasRoom : List ℕ → ℕ → ℕ → Piece → Type 0
HasRoom value start at End = at < length value
HasRoom value start at (Label n) = at + 1 + n ≤ length value
HasRoom value start at (Pointer target) = (at + 2 ≤ length value) × (target < start)
HasRoom value start at Bad = Unit {0}

-- a name with one more label; a label is never empty, so nothing is no label yet
abbrev pub with_label : List ℕ → List ℕ → List ℕ
with_label [] label = label
with_label (b ∷ name) label = (b ∷ name) ++ 46 ∷ label
