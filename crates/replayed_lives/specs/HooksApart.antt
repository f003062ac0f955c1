-- Hooks change nothing else in the transcripts of scripts.
use Rattle.std.specs.Prelude.{◌≡◌, Bool, true, false, List, filter}
use Rattle.script_model.specs.declared.failing.FailDevice.TheVariants.{Link, Host, Store}
use Rattle.script_model.specs.FailingCalls.{failing_calls}
use Rattle.script_model.specs.Lines.{Line, HookPolled, HookAbandoned, HookDropped, HookStarted, Variable, Until}
use Rattle.script_model.specs.ScriptTexts.{ScriptLines}
use Rattle.conf_text.specs.Configurations.{Configuration}
use Rattle.replayed_lives.specs.Replays.{transcript}

-- neither a hook's line nor the moment that the next wait is asked for
abbrev pub is_of_others : Line → Bool
is_of_others (HookPolled number answer) = false
is_of_others (HookAbandoned number) = false
is_of_others (HookDropped number reason name) = false
is_of_others (HookStarted number reason name done) = false
is_of_others (Variable name value) = false
is_of_others (Until moment) = false
is_of_others line = true

abbrev pub lines_of_others : List Line → List Line
lines_of_others lines = filter is_of_others lines

-- two scripts that are the same but for what polls of hooks answer, and which of their starts fail
pub record SameButHooks (one other : ScriptLines) : Type 0 where
  pub conf : one.conf ≡ other.conf
  pub ifaces : one.ifaces ≡ other.ifaces
  pub rows : one.rows ≡ other.rows
  pub files : one.files ≡ other.files
  pub sends : failing_calls Link one.fails ≡ failing_calls Link other.fails
  pub host : failing_calls Host one.fails ≡ failing_calls Host other.fails
  pub store : failing_calls Store one.fails ≡ failing_calls Store other.fails
  pub lives : one.lives ≡ other.lives

-- So are their transcripts under one configuration, life by life.
abbrev pub HooksChangeNothing : Type 0
HooksChangeNothing = (conf : Configuration) (one other : ScriptLines) → SameButHooks one other
    → lines_of_others (transcript one conf) ≡ lines_of_others (transcript other conf)
