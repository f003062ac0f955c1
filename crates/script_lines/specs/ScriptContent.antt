-- What a script is seen as.
use Rattle.std.specs.Prelude.{◌≡◌, ℕ, flat_map, List, [], ◌∷◌, map, option_map}
use Rattle.std.specs.String.{string_bytes}
use Rattle.world.specs.FileLists.{StoreFile}
use Rattle.world.specs.LinkCalls.{Given}
use Rattle.script_model.specs.Crashes.{CrashScript}
use Rattle.script_model.specs.ScriptTexts.{ScriptLines, LifeScript, ended}
use Rattle.script_lines.specs.declared.script.Script.{Script}
use Rattle.script_lines.specs.declared.script.LifeLines.{LifeLines}
use Rattle.script_lines.specs.declared.script.TurnLine.{TurnLine}
use Rattle.script_lines.specs.declared.script.FileLine.{FileLine}
use Rattle.script_lines.specs.declared.script.CrashLine.{CrashLine}
use Rattle.script_lines.specs.Blocks.{parts_of}

-- the lines of a configuration; each ends with a line feed
abbrev pub unless_last : List ℕ → List (List ℕ) → List (List ℕ) → List (List ℕ)
unless_last part [] lines = []
unless_last part (next ∷ parts) lines = part ∷ lines

abbrev pub lines_within : List (List ℕ) → List (List ℕ)
lines_within [] = []
lines_within (part ∷ parts) = unless_last part parts (lines_within parts)

unfoldable pub conf_lines : List ℕ → List (List ℕ)
conf_lines conf = lines_within (parts_of conf)

-- nothing stands after the last line
unfoldable pub HoldsLines : List ℕ → Type 0
HoldsLines conf = conf ≡ flat_map ended (conf_lines conf)

abbrev pub file_of : FileLine → StoreFile
file_of file = record { name = string_bytes file.name; bytes = file.bytes.items }

abbrev pub given_of : TurnLine → Given
given_of turn = record { wake = turn.wake; bytes = turn.bytes.items }

abbrev pub crash_of : CrashLine → CrashScript
crash_of crash = record { calls = crash.calls; kind = crash.kind }

abbrev pub life_of : LifeLines → LifeScript
life_of life =
    record { begin = life.begin; turns = map given_of life.turns.items; crash = option_map crash_of life.crash }

abbrev pub script_of : Script → ScriptLines
script_of script = record {
  conf = conf_lines script.conf.items;
  ifaces = script.ifaces.items;
  rows = script.rows.items;
  files = map file_of script.files.items;
  fails = script.fails.items;
  polls = script.polls.items;
  lives = map life_of script.lives.items;
}
