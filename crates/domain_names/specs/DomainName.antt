-- Names of domains (RFC 1035, sections 2.3.1 and 2.3.4; '_' as RFC 2181, section 11, lets it stand).
use Rattle.std.specs.Prelude.{ℕ, Bool, List, [], ◌∷◌, ◌++◌, length, Option, Some, None, nat_le, ◌==◌, ◌&&◌, ◌||◌, if◌then◌else◌}
use Rattle.std.specs.Char.{is_ascii_alphanumeric}
use Rattle.std.specs.List.{flat_map, list_all}

-- a letter, a digit, '-' or '_'
abbrev pub is_name_byte : ℕ → Bool
is_name_byte byte = is_ascii_alphanumeric byte || (byte == 45) || (byte == 95)

-- 1 to 63 such bytes
abbrev pub is_label : List ℕ → Bool
is_label label = nat_le 1 (length label) && nat_le (length label) 63 && list_all is_name_byte label

-- the labels with a dot between each two
abbrev pub dotted : List (List ℕ) → List ℕ
dotted [] = []
dotted (first ∷ others) = first ++ flat_map (λ label. 46 ∷ label) others

-- the name of these labels: one label or more, of at most 253 bytes with the dots
abbrev pub name_of : List (List ℕ) → Option (List ℕ)
name_of labels =
    if nat_le 1 (length labels) && list_all is_label labels && nat_le (length (dotted labels)) 253
    then Some (dotted labels)
    else None
