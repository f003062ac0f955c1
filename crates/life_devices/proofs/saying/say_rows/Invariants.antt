use Rattle.std.proofs.Common.{take}
use Rattle.std.specs.Prelude.{map}
use Rattle.script_model.specs.Lines as lines
use Rattle.device_calls.specs.Printing.{Prints}
use Rattle.life_devices.proofs.saying.say_rows.Given as goal

abbrev pub invariant-loop-row : goal.invariant-loop-row
invariant-loop-row l = Prints l.fn.text.items l.text.items (map lines.Row (take l.row-index l.rows))
