-- The search list as a function of the value, for those who ask which names a value gives.
use Rattle.std.specs.Prelude.{ℕ, zero, suc, ◌+◌, ◌*◌, List, [], ◌∷◌, length, take, drop, Option, Some, None, nat_lt, ◌==◌, if◌then◌else◌}
use Rattle.std.specs.Option.{option_map, option_and_then}
use Rattle.domain_names.specs.declared.compressed.Piece.{Piece}
use Rattle.domain_names.specs.declared.compressed.Piece.TheVariants.{End, Label, Pointer, Bad}
use Rattle.domain_names.specs.DomainName.{name_of}
use Rattle.domain_names.specs.CompressedName.{piece_of}

-- labels, and where what follows their name begins
abbrev pub Labels : Type 0
Labels = List (List ℕ) × ℕ

-- the start of the part in which the next piece stands
abbrev pub next_start : Piece → ℕ → ℕ
next_start End start = start
next_start (Label n) start = start
next_start (Pointer target) start = target
next_start Bad start = start

abbrev pub next_place : Piece → ℕ → ℕ
next_place End at = at
next_place (Label n) at = at + 1 + n
next_place (Pointer target) at = target
next_place Bad at = at

-- the labels from a piece on, where those from the next one on are known
abbrev pub with_piece : Piece → List ℕ → ℕ → Option Labels → Option Labels
with_piece End value at later = Some ([], at + 1)
with_piece (Label n) value at later = option_map (λ m. (take n (drop (at + 1) value) ∷ m.0, m.1)) later
with_piece (Pointer target) value at later = option_map (λ m. (m.0, at + 2)) later
with_piece Bad value at later = None

-- the labels at a place, where they are fewer pieces than this
unfoldable pub labels_within : ℕ → List ℕ → ℕ → ℕ → Option Labels
labels_within zero value start at = None
labels_within (suc more) value start at =
    with_piece (piece_of value start at) value at
    (labels_within more value (next_start (piece_of value start at) start) (next_place (piece_of value start at) at))

-- The name at a place, and where what follows it begins. A part has fewer pieces than the value has bytes and one, and
-- each pointer leads below its part, so this many are enough.
unfoldable pub name_in : List ℕ → ℕ → Option (List ℕ × ℕ)
name_in value at =
    option_and_then (λ m. option_map (λ text. (text, m.1)) (name_of m.0))
    (labels_within ((at + 1) * (length value + 1)) value at at)

-- the names from a place on, where they are no more than this
unfoldable pub names_within : ℕ → List ℕ → ℕ → Option (List (List ℕ))
names_within zero value at = if at == length value then Some [] else None
names_within (suc more) value at =
    if at == length value
    then Some []
    else option_and_then (λ m. option_map (λ texts. m.0 ∷ texts) (names_within more value m.1)) (name_in value at)

-- the names that are the value: one or more
abbrev pub search_in : List ℕ → Option (List (List ℕ))
search_in value = if nat_lt 0 (length value) then names_within (length value) value 0 else None
