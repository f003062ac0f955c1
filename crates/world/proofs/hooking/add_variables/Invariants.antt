use Rattle.std.proofs.Common.{◌≡◌, ◌++◌, map, take}
use Rattle.world.specs.HookCalls.{variable_of}
use Rattle.world.proofs.hooking.add_variables.Given as goal

abbrev pub invariant-loop-variable : goal.invariant-loop-variable
invariant-loop-variable l =
    map variable_of l.into.items ≡ map variable_of l.fn.into.items ++ map variable_of (take l.variable-index l.variables)
