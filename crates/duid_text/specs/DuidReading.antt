-- The bytes that a text spells, read from its front.
use Rattle.std.specs.Prelude.{ℕ, List, [], ◌∷◌, ◌==◌, Option, Some, None, bytes_eq, if◌then◌else◌}
use Rattle.net_types.specs.HexText.{hex_byte_at}
use Rattle.duid_text.specs.DuidTexts.{with_byte}

-- one pair of digits or more, each with a colon after it, and the last with the line feed that ends the text
abbrev pub bytes_at : List ℕ → Option (List ℕ)
bytes_at (a ∷ b ∷ mark ∷ rest) =
    with_byte (hex_byte_at (a ∷ b ∷ []))
    (if bytes_eq (mark ∷ rest) (10 ∷ []) then Some [] else (if mark == 58 then bytes_at rest else None))
bytes_at _ = None
