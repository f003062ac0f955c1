use Rattle.std.proofs.Common.{take}
use Rattle.turn_model.specs.Lives.{hold_lines}
use Rattle.device_calls.specs.Printing.{Prints}
use Rattle.daemon.proofs.closing.say_holds.Given as goal

abbrev pub invariant-loop-row : goal.invariant-loop-row
invariant-loop-row l = Prints l.fn.text.items l.text.items (hold_lines (take l.row-index l.rows))
