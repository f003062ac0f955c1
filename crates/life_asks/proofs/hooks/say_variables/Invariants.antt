use Rattle.std.proofs.Common.{map, take}
use Rattle.world.specs.HookCalls.{variable_of}
use Rattle.device_calls.specs.CallLines.{variable_line}
use Rattle.device_calls.specs.Printing.{Prints}
use Rattle.life_asks.proofs.hooks.say_variables.Given as goal

abbrev pub invariant-loop-var : goal.invariant-loop-var
invariant-loop-var l = Prints l.fn.text.items l.text.items (map variable_line (map variable_of (take l.var-index l.vars)))
