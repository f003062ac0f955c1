-- How the readers cut a text.
use Rattle.std.specs.Prelude.{ℕ, ◌-◌, Bool, List, [], ◌∷◌, length, take, Option, Some, None, nat_eq, ◌==◌, if◌then◌else◌}
use Rattle.std.specs.List.{ends_with}
use Rattle.net_types.specs.Cutting.{split_at_byte}
use Rattle.conf_words.specs.declared.arguments.Form.TheVariants.{Plain, Quoted}
use Rattle.conf_words.specs.Marks.{line_feed, carriage_return, quote, parts_words, is_of_word, front_of, past}
use Rattle.conf_words.specs.Arguments.{Said, said}

unfoldable pub without_return : List ℕ → List ℕ
without_return line = if ends_with nat_eq line (carriage_return ∷ []) then take (length line - 1) line else line

abbrev pub line_by : List ℕ → Option (List ℕ × List ℕ) → List ℕ × List ℕ
line_by text (Some parts) = (without_return parts.0, parts.1)
line_by text None = (text, [])

unfoldable pub line_at : List ℕ → Option (List ℕ × List ℕ)
line_at text = if length text == 0 then None else Some (line_by text (split_at_byte line_feed text))

abbrev pub quoted_by : List ℕ → Option (List ℕ × List ℕ) → Said × List ℕ
quoted_by text (Some parts) = (said Quoted parts.0, parts.1)
quoted_by text None = (said Quoted text, [])

unfoldable pub quoted_at : List ℕ → Said × List ℕ
quoted_at text = quoted_by text (split_at_byte quote text)

abbrev pub plain_at : List ℕ → Said × List ℕ
plain_at text = (said Plain (front_of is_of_word text), past is_of_word text)

abbrev pub argument_from : List ℕ → Option (Said × List ℕ)
argument_from [] = None
argument_from (byte ∷ bytes) = if byte == quote then Some (quoted_at bytes) else Some (plain_at (byte ∷ bytes))

unfoldable pub argument_at : List ℕ → Option (Said × List ℕ)
argument_at text = argument_from (past parts_words text)

abbrev pub ends_line : List ℕ → Bool
ends_line text = length (past parts_words text) == 0

abbrev pub whole_by : Said × List ℕ → Option Said
whole_by parts = if ends_line parts.1 then Some parts.0 else None

abbrev pub whole_from : List ℕ → Option Said
whole_from [] = None
whole_from (byte ∷ bytes) = if byte == quote then whole_by (quoted_at bytes) else Some (said Plain (byte ∷ bytes))

unfoldable pub whole_at : List ℕ → Option Said
whole_at about = whole_from (past parts_words about)
