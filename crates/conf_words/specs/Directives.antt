-- The directive of a line: its first word, which is never quoted.
use Rattle.std.specs.Prelude.{ℕ, Bool, true, List, [], ◌∷◌, Option, Some, None, if◌then◌else◌}
use Rattle.conf_words.specs.declared.lines.Line.{Line}
use Rattle.conf_words.specs.Marks.{parts_words, is_of_word, begins_comment, front_of, past}

-- a directive, the number of its line, and what stands after it in the line
pub record Directive : Type 0 where
  pub number : ℕ
  pub word : List ℕ
  pub about : List ℕ

abbrev pub shown_line : Line → Directive
shown_line line = record { number = line.number; word = line.directive.now; about = line.about.now }

-- whether there is no word, or the first one begins a comment
abbrev pub says_nothing : List ℕ → Bool
says_nothing [] = true
says_nothing (byte ∷ bytes) = begins_comment byte

-- what stands from the first word on
abbrev pub directive_from : ℕ → List ℕ → Option Directive
directive_from number words =
    if says_nothing words
    then None
    else Some (record { number = number; word = front_of is_of_word words; about = past is_of_word words })

unfoldable pub directive_in : ℕ → List ℕ → Option Directive
directive_in number line = directive_from number (past parts_words line)
