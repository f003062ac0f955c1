-- Which lines are a transcript.
use Rattle.std.specs.Prelude.{◌≡◌, ◌≤◌, List, ◌++◌, map, length, Ok}
use Rattle.std.specs.List.{AllByRecursion}
use Rattle.net_types.specs.Marks.{IsPrintable}
use Rattle.net_types.specs.TextLines.{Line, AreLines, lines_text}
use Rattle.conf_text.specs.Configurations.{IsConfOf}
use Rattle.script_model.specs.Lines.{line_words}
use Rattle.script_model.specs.Scripts.{FitInterfaces}
use Rattle.script_model.specs.Spellings.{AreSpelled}
use Rattle.transcript_lines.specs.LineSpellings.{IsTold}
use Rattle.transcript_model.specs.Told.{BodyTold, Told, body_lines, head_lines}
use Rattle.transcript_model.specs.LifeShapes.{FitsLife}

-- interfaces as in a script, and a life at least
pub record FitsBody (body : BodyTold) : Type 0 where
  pub ifaces : FitInterfaces body.ifaces
  pub some : 1 ≤ length body.lives
  pub lives : AllByRecursion FitsLife body.lives

-- the lines after the head, all of printable ASCII
pub record SpellsBody (body : BodyTold) (lines : List Line) : Type 0 where
  pub printable : AllByRecursion IsPrintable lines
  pub spelled : AreSpelled IsTold lines (body_lines body)
  pub fits : FitsBody body

-- the first line, those of a configuration without a fault, its notices, and the body
pub record SpellsTold (told : Told) (lines : List Line) : Type 0 where
  pub others : List Line
  pub are : lines ≡ map line_words (head_lines told.conf told.configuration) ++ others
  pub each : AreLines lines
  pub configured : IsConfOf (lines_text told.conf) (Ok told.configuration)
  pub spells : SpellsBody told.body others
