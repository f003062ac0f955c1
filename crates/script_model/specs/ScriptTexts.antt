-- What a script says.
use Rattle.std.specs.Prelude.{ℕ, List, [], ◌∷◌, ◌++◌, Option}
use Rattle.world.specs.NetTypes.declared.interface.IfSpec.{IfSpec}
use Rattle.world.specs.declared.wakes.Begin.{Begin}
use Rattle.world.specs.declared.rows.HostRow.{HostRow}
use Rattle.world.specs.declared.hooking.Poll.{Poll}
use Rattle.world.specs.FileLists.{StoreFile}
use Rattle.world.specs.LinkCalls.{Given}
use Rattle.script_model.specs.declared.failing.FailLine.{FailLine}
use Rattle.script_model.specs.Crashes.{CrashScript}
use Rattle.script_model.specs.Lines.{turn_text}

-- a life: how it begins, what comes in its turns, and how the store crashes when they are over
pub record LifeScript : Type 0 where
  pub begin : Begin
  pub turns : List Given
  pub crash : Option CrashScript

pub record ScriptLines : Type 0 where
  -- the texts of the configuration's lines
  pub conf : List (List ℕ)
  pub ifaces : List IfSpec
  -- the rows that the host holds at first
  pub rows : List HostRow
  -- the files that the store holds at first
  pub files : List StoreFile
  -- the calls that fail
  pub fails : List FailLine
  -- what polls of hooks answer in order, over all lives; nothing where a poll fails
  pub polls : List (Option Poll)
  -- the lives, one after another over the same host and store
  pub lives : List LifeScript

abbrev pub ended : List ℕ → List ℕ
ended words = words ++ 10 ∷ []

abbrev pub given_text : Given → List ℕ
given_text given = turn_text given.wake.at given.wake.salt given.wake.event given.bytes
