use Rattle.std.proofs.Common.{◌≡◌, ◌++◌, map, take}
use Rattle.world.specs.HookCalls.{variable_of}
use Rattle.hook_env.specs.declared.variables.TheConstants.{NET_VARIABLES}
use Rattle.hook_env.specs.LeaseVariables.{net_told}
use Rattle.hook_env.proofs.telling4.add_net.Given as goal

abbrev pub invariant-loop-variable : goal.invariant-loop-variable
invariant-loop-variable l =
    map variable_of l.into.items ≡ map variable_of l.fn.into.items ++ map (net_told l.stage l.net) (take l.variable-index NET_VARIABLES)
