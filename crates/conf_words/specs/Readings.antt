-- What is read of a configuration: its directives up to the first line that isn't text.
use Rattle.std.specs.Prelude.{◌≡◌, ℕ, ◌+◌, false, IsTrue, List, [], length, map, filter_map, Option, Some, None}
use Rattle.std.specs.List.{list_all, enumerate_from}
use Rattle.conf_words.specs.declared.reading.Reading.{Reading}
use Rattle.conf_words.specs.Parts.{Leads}
use Rattle.conf_words.specs.TextLines.{BeginsWithLine}
use Rattle.conf_words.specs.Characters.{is_text}
use Rattle.conf_words.specs.Directives.{Directive, directive_in, shown_line}

-- the directives of lines that are numbered from 1
abbrev pub directives : List (List ℕ) → List Directive
directives lines = filter_map (λ line. directive_in line.0 line.1) (enumerate_from 1 lines)

-- the text ends before line `number`, or this line isn't text
abbrev pub StopsBefore : List ℕ → ℕ → Option ℕ → Type 0
StopsBefore rest number None = rest ≡ []
StopsBefore rest number (Some not_text) =
    (not_text ≡ number) × (line : List ℕ) × (after : List ℕ) × BeginsWithLine rest line after × (is_text line ≡ false)

pub record Read : Type 0 where
  pub found : List Directive
  pub not_text : Option ℕ

abbrev pub shown_reading : Reading → Read
shown_reading reading = record { found = map shown_line reading.lines.items; not_text = reading.not_text }

-- the text begins with lines of text that have these directives, up to its end or to the first line that isn't text
pub record IsReadAs (text : List ℕ) (read : Read) : Type 0 where
  pub lines : List (List ℕ)
  pub rest : List ℕ
  pub leads : Leads BeginsWithLine lines text rest
  pub texts : IsTrue (list_all is_text lines)
  pub has : read.found ≡ directives lines
  pub stops : StopsBefore rest (length lines + 1) read.not_text
