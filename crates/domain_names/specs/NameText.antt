-- A name as a text (RFC 2132, sections 3.14 and 3.17).
use Rattle.std.specs.Prelude.{ℕ, ◌-◌, Bool, List, [], ◌∷◌, ◌++◌, length, take, slice_index, Option, is_some, ◌==◌, ◌||◌, if◌then◌else◌}
use Rattle.domain_names.specs.DomainName.{name_of}

-- the labels of a text whose first label begins with these bytes
abbrev pub labels_after : List ℕ → List ℕ → List (List ℕ)
labels_after label [] = label ∷ []
labels_after label (byte ∷ rest) =
    if byte == 46 then label ∷ labels_after [] rest else labels_after (label ++ byte ∷ []) rest

-- the parts of a text between its dots
abbrev pub labels_of : List ℕ → List (List ℕ)
labels_of text = labels_after [] text

abbrev pub is_name : List ℕ → Bool
is_name text = is_some (name_of (labels_of text))

-- without a trailing zero byte or dot, one of them at most
abbrev pub trimmed : List ℕ → List ℕ
trimmed value =
    if (slice_index value (length value - 1) == 0) || (slice_index value (length value - 1) == 46)
    then take (length value - 1) value
    else value

-- the name that is the value
abbrev pub text_in : List ℕ → Option (List ℕ)
text_in value = name_of (labels_of (trimmed value))
