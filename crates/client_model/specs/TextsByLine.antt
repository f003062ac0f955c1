-- The lines of a text.
use Rattle.std.specs.Prelude.{ℕ, ◌==◌, if◌then◌else◌, List, [], ◌∷◌, Option, Some, None, option_map}
use Rattle.net_types.specs.TextLines.{Line}

-- There are none where the last line isn't ended.
abbrev pub with_byte : ℕ → Option (List Line) → Option (List Line)
with_byte byte None = None
with_byte byte (Some []) = None
with_byte byte (Some (line ∷ lines)) = Some ((byte ∷ line) ∷ lines)

abbrev pub lines_in : List ℕ → Option (List Line)
lines_in [] = Some []
lines_in (byte ∷ text) =
    if byte == 10 then option_map (λ lines. [] ∷ lines) (lines_in text) else with_byte byte (lines_in text)
