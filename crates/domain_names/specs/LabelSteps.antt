-- The labels of a text, one byte after another.
use Rattle.std.specs.Prelude.{ℕ, ◌+◌, Bool, List, [], ◌∷◌, nat_lt, ◌==◌, ◌&&◌, if◌then◌else◌}
use Rattle.domain_names.specs.DomainName.{is_name_byte}

-- whether a text is labels, whose first goes on after so many bytes
abbrev pub labels_fit : ℕ → List ℕ → Bool
labels_fit len [] = nat_lt 0 len
labels_fit len (byte ∷ rest) =
    if byte == 46
    then nat_lt 0 len && labels_fit 0 rest
    else nat_lt len 63 && is_name_byte byte && labels_fit (len + 1) rest
