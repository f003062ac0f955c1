-- What the lines read so far have in common with a script.
use Rattle.std.specs.Prelude.{ℕ, ◌≡◌, true, List, [], length, flat_map, AllPairs, Option, Some, None, is_some}
use Rattle.std.specs.List.{AllByRecursion}
use Rattle.net_types.specs.LineReading.{run}
use Rattle.net_types.specs.Marks.{Lacks}
use Rattle.net_types.specs.TextLines.{Line, ended}
use Rattle.world.specs.Rows.{IsRow}
use Rattle.world.specs.RowOrder.{in_row_order}
use Rattle.script_model.specs.FailingCalls.{FitsFail}
use Rattle.script_model.specs.FirstFiles.{FitsFile, UnlikeNames}
use Rattle.script_model.specs.HookAnswers.{FitsAnswer}
use Rattle.script_model.specs.RowSpellings.{SpellsRow}
use Rattle.script_model.specs.Scripts.{FitInterfaces, FitsLife}
use Rattle.script_model.specs.ScriptTexts.{LifeScript}
use Rattle.script_model.specs.Spellings.{AreSpelled}
use Rattle.script_lines.specs.Clocks.{clock_at, clock_through}
use Rattle.replay_text.specs.LinesInOrder.{SpellsLife, SpellsScript, script_lines}
use Rattle.script_lines.specs.ScriptContent.{conf_lines}
use Rattle.replay_text.specs.LinesRead.{LifeRead, LinesRead, lives_in, script_in}
use Rattle.replay_text.specs.ScriptReading.{ScriptRead, step}

-- these lines are a text of what was read
pub record SpellsRead (read : ScriptRead) (lines : List Line) : Type 0 where
  pub spells : SpellsScript read.script lines
  pub conf : read.conf ≡ flat_map ended read.script.conf

abbrev pub HasPassed : ℕ → LifeScript → Type 0
HasPassed count life = FitsLife count life × (is_some life.crash ≡ true)

-- the last life, with its clock; before the first one none has passed
abbrev pub FitsLast : ℕ → List LifeScript → Option LifeRead → Type 0
FitsLast count past None = past ≡ []
FitsLast count past (Some read) =
    FitsLife count read.life × (read.clock ≡ clock_through (clock_at read.life.begin.at) read.life.turns)

pub record IsSound (read : LinesRead) : Type 0 where
  pub conf : AllByRecursion (Lacks 10) (conf_lines read.conf)
  pub holds : read.conf ≡ flat_map ended (conf_lines read.conf)
  pub ifaces : FitInterfaces read.ifaces
  pub rows : AllByRecursion IsRow read.rows
  pub once : length (in_row_order read.rows) ≡ length read.rows
  pub files : AllByRecursion FitsFile read.files
  pub unlike : AllPairs UnlikeNames read.files
  pub fails : AllByRecursion FitsFail read.fails
  pub polls : AllByRecursion FitsAnswer read.polls
  pub past : AllByRecursion (HasPassed (length read.ifaces)) read.past
  pub last : FitsLast (length read.ifaces) read.past read.last

-- these lines were read: they are those of a script so far
pub record AfterLines (read : LinesRead) (lines : List Line) : Type 0 where
  pub rows : List (List ℕ)
  pub spelled : AreSpelled SpellsRow rows read.rows
  pub lives : List (List Line)
  pub lived : AreSpelled SpellsLife lives (lives_in read)
  pub are : lines ≡ script_lines rows lives (script_in read)
  pub sound : IsSound read

abbrev pub IsAfter : Option LinesRead → List Line → Type 0
IsAfter None lines = lines ≡ []
IsAfter (Some read) lines = AfterLines read lines

pub record After (state : Option LinesRead) (lines : List Line) : Type 0 where
  pub runs : run step lines None ≡ Some state
  pub read : IsAfter state lines
