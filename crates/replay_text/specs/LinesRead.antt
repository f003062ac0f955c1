-- What the lines of a script said so far.
use Rattle.std.specs.Prelude.{ℕ, List, [], ◌∷◌, ◌++◌, Option, Some, None}
use Rattle.net_types.specs.declared.interface.IfSpec.{IfSpec}
use Rattle.world.specs.declared.rows.HostRow.{HostRow}
use Rattle.world.specs.declared.hooking.Poll.{Poll}
use Rattle.world.specs.FileLists.{StoreFile}
use Rattle.script_model.specs.declared.failing.FailLine.{FailLine}
use Rattle.script_model.specs.ScriptTexts.{ScriptLines, LifeScript}
use Rattle.script_lines.specs.declared.clock.Clock.{Clock}
use Rattle.script_lines.specs.ScriptContent.{conf_lines}

-- a life, and what it knows of moments
pub record LifeRead : Type 0 where
  pub life : LifeScript
  pub clock : Clock

-- what the lines so far said
pub record LinesRead : Type 0 where
  -- the configuration's lines, each with its line feed
  pub conf : List ℕ
  pub ifaces : List IfSpec
  pub rows : List HostRow
  pub files : List StoreFile
  pub fails : List FailLine
  pub polls : List (Option Poll)
  -- the lives before the last one
  pub past : List LifeScript
  pub last : Option LifeRead

abbrev pub last_life : Option LifeRead → List LifeScript
last_life None = []
last_life (Some read) = read.life ∷ []

abbrev pub lives_in : LinesRead → List LifeScript
lives_in read = read.past ++ last_life read.last

abbrev pub script_in : LinesRead → ScriptLines
script_in read = record {
  conf = conf_lines read.conf;
  ifaces = read.ifaces;
  rows = read.rows;
  files = read.files;
  fails = read.fails;
  polls = read.polls;
  lives = lives_in read;
}

abbrev pub nothing_read : LinesRead
nothing_read = record { conf = []; ifaces = []; rows = []; files = []; fails = []; polls = []; past = []; last = None }
