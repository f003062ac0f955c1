-- The value of an option is that of all its instances, end to end (RFC 3396, section 7).
use Rattle.std.specs.Prelude.{ℕ, Bool, List, [], ◌∷◌, ◌++◌, map, filter, Option, Some, None, ◌==◌}
use Rattle.std.specs.Option.{is_some}
use Rattle.std.specs.List.{flat_map}
use Rattle.v4_options.specs.OptionArea.{Instance, instances_in}

-- the values of a code's instances
abbrev pub pieces : ℕ → List Instance → List (List ℕ)
pieces code instances = map (λ i. i.1) (filter (λ i. i.0 == code) instances)

abbrev pub pieces_in : ℕ → List ℕ → List (List ℕ)
pieces_in code area = pieces code (instances_in area)

-- the pieces end to end, where there is one
abbrev pub joined : List (List ℕ) → Option (List ℕ)
joined [] = None
joined (first ∷ others) = Some (first ++ flat_map (λ piece. piece) others)

-- the value of a code, where it has an instance
abbrev pub value_of : ℕ → List Instance → Option (List ℕ)
value_of code instances = joined (pieces code instances)

-- a code has an instance
abbrev pub is_present : ℕ → List Instance → Bool
is_present code instances = is_some (value_of code instances)

-- the bytes of a code's value, none where it has no instance
abbrev pub bytes_at : ℕ → List Instance → List ℕ
bytes_at code instances = flat_map (λ piece. piece) (pieces code instances)

-- the byte of a value that has one byte
abbrev pub only_byte : List ℕ → Option ℕ
only_byte [] = None
only_byte (byte ∷ []) = Some byte
only_byte (byte ∷ next ∷ rest) = None

-- the byte of a code's value, where it has a value of one byte
abbrev pub byte_of : ℕ → List Instance → Option ℕ
byte_of code instances = only_byte (bytes_at code instances)
