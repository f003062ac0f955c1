-- Compressed names (RFC 1035, section 4.1.4; RFC 3397, section 2).
use Rattle.std.specs.Prelude.{ℕ, ◌≡◌, ◌≢◌, ◌+◌, ◌-◌, ◌*◌, List, [], ◌∷◌, length, take, drop, slice_index, Some, nat_le, nat_lt, ◌==◌, if◌then◌else◌}
use Rattle.domain_names.specs.declared.compressed.Piece.{Piece}
use Rattle.domain_names.specs.declared.compressed.Piece.TheVariants.{End, Label, Pointer, Bad}
use Rattle.domain_names.specs.DomainName.{name_of}

-- where a pointer of these two bytes leads
abbrev pub target_of : ℕ → ℕ → ℕ
target_of high low = (high - 192) * 256 + low

abbrev pub label_piece : List ℕ → ℕ → ℕ → Piece
label_piece value at len = if nat_le (at + 1 + len) (length value) then Label len else Bad

-- a pointer leads to a place before the part that is being read
abbrev pub pointer_piece : List ℕ → ℕ → ℕ → Piece
pointer_piece value start at =
    if nat_le (at + 2) (length value)
    then (if nat_lt (target_of (slice_index value at) (slice_index value (at + 1))) start
    then Pointer (target_of (slice_index value at) (slice_index value (at + 1)))
    else Bad)
    else Bad

-- What stands at a place of a value, in a part that begins at `start`. A zero byte ends the name, a byte of 1 to 63 is
-- the length of a label, and two high bits that are set begin a pointer of two bytes.
unfoldable pub piece_of : List ℕ → ℕ → ℕ → Piece
piece_of value start at =
    if nat_le (length value) at then Bad
    else if slice_index value at == 0 then End
    else if nat_lt (slice_index value at) 64 then label_piece value at (slice_index value at)
    else if nat_lt (slice_index value at) 192 then Bad
    else pointer_piece value start at

-- The part that begins at `start`, read from `at` on, spells these labels, and the name goes on to `next`.
-- It is well founded: a label or the end goes forward, and a pointer leads below its part.
pub data Spells (value : List ℕ) : ℕ → ℕ → List (List ℕ) → ℕ → Type 0 where
  ends : {start at : ℕ} → piece_of value start at ≡ End → Spells value start at [] (at + 1)
  goes_on : {start at n next : ℕ} {labels : List (List ℕ)} → piece_of value start at ≡ Label n
      → Spells value start (at + 1 + n) labels next → Spells value start at (take n (drop (at + 1) value) ∷ labels) next
  points : {start at target after : ℕ} {labels : List (List ℕ)} → piece_of value start at ≡ Pointer target
      → Spells value target target labels after → Spells value start at labels (at + 2)

-- the name that stands at a place, and where what follows it begins
pub record IsNameAt (value : List ℕ) (at : ℕ) (text : List ℕ) (next : ℕ) : Type 0 where
  pub labels : List (List ℕ)
  pub spelled : Spells value at at labels next
  pub named : name_of labels ≡ Some text

-- names one after another to the end of the value
abbrev pub AreNames : List ℕ → ℕ → List (List ℕ) → Type 0
AreNames value at [] = at ≡ length value
AreNames value at (text ∷ texts) = (next : ℕ) × IsNameAt value at text next × AreNames value next texts

abbrev pub NoNameAt : List ℕ → ℕ → Type 0
NoNameAt value at = (text : List ℕ) (next : ℕ) → IsNameAt value at text next → ⊥

-- the value isn't one name or more and nothing else
abbrev pub NoNames : List ℕ → Type 0
NoNames value = (texts : List (List ℕ)) → texts ≢ [] → AreNames value 0 texts → ⊥
