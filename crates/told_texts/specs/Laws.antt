-- That what is told is spelled by the texts of its lines.
use Rattle.std.specs.Prelude.{List, ◌++◌, Ok}
use Rattle.std.specs.List.{AllByRecursion}
use Rattle.net_types.specs.FirstBadLine.{IsSpelled}
use Rattle.net_types.specs.Marks.{IsPrintable}
use Rattle.net_types.specs.TextLines as texts
use Rattle.net_types.specs.TextLines.{AreLines}
use Rattle.conf_text.specs.Configurations.{IsConfOf}
use Rattle.script_model.specs.Lines.{Line, Variable, lines_text}
use Rattle.transcript_lines.specs.Bounds.{FitsTold}
use Rattle.transcript_model.specs.Told.{Told, body_lines, head_lines}
use Rattle.transcript_model.specs.Transcripts.{FitsBody, SpellsTold}

-- all lines of a transcript
abbrev pub lines_told : Told → List Line
lines_told told = head_lines told.conf told.configuration ++ body_lines told.body

-- what a hook is told is printable
abbrev pub IsPlain : Line → Type 0
IsPlain (Variable name value) = IsPrintable name × IsPrintable value
IsPlain line = Unit {0}

-- the lines of a configuration with what they say, a body in its shape, and lines that may stand in it
pub record CanBeTold (told : Told) : Type 0 where
  pub conf : AreLines told.conf
  pub configured : IsConfOf (texts.lines_text told.conf) (Ok told.configuration)
  pub body : FitsBody told.body
  pub fit : AllByRecursion FitsTold (body_lines told.body)
  pub plain : AllByRecursion IsPlain (body_lines told.body)

abbrev pub ToldIsSpelled : Type 0
ToldIsSpelled = (told : Told) → CanBeTold told → IsSpelled SpellsTold (lines_text (lines_told told)) told
