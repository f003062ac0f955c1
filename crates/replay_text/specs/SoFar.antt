-- What the reader holds of the lines so far.
use Rattle.std.specs.Prelude.{map, Option, Some, None, option_map}
use Rattle.script_lines.specs.declared.script.Script.{Script}
use Rattle.replay_text.specs.declared.so_far.LastLife.{LastLife}
use Rattle.replay_text.specs.declared.so_far.LinesSoFar.{LinesSoFar}
use Rattle.replay_text.specs.declared.reading.ScriptState.{ScriptState}
use Rattle.replay_text.specs.declared.reading.ScriptState.TheVariants as states
use Rattle.script_lines.specs.ScriptContent.{life_of, script_of}
use Rattle.replay_text.specs.LinesRead.{LifeRead, LinesRead}
use Rattle.replay_text.specs.ScriptReading.{ScriptRead}

abbrev pub life_read : LastLife → LifeRead
life_read last = record { life = life_of last.life; clock = last.clock }

abbrev pub lines_read : LinesSoFar → LinesRead
lines_read lines = record {
  conf = lines.conf.items;
  ifaces = lines.ifaces;
  rows = lines.rows;
  files = lines.files;
  fails = lines.fails.items;
  polls = lines.polls.items;
  past = map life_of lines.past.items;
  last = option_map life_read lines.last;
}

abbrev pub state_read : ScriptState → Option LinesRead
state_read states.Nothing = None
state_read (states.Lines lines) = Some (lines_read lines)

abbrev pub script_said : Script → ScriptRead
script_said script = record { conf = script.conf.items; script = script_of script }
