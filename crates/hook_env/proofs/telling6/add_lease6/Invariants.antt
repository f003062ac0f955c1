use Rattle.std.proofs.Common.{◌≡◌, ◌++◌, map, take, flat_map}
use Rattle.world.specs.HookCalls.{variable_of}
use Rattle.lease6_text.specs.Leases.{lease6_content}
use Rattle.hook_env.specs.declared.variables.TheConstants.{LEASE6_VARIABLES}
use Rattle.hook_env.specs.Lease6Variables.{lease6_told}
use Rattle.hook_env.proofs.telling6.add_lease6.Given as goal

abbrev pub invariant-loop-variable : goal.invariant-loop-variable
invariant-loop-variable l =
    map variable_of l.into.items
    ≡ map variable_of l.fn.into.items ++ flat_map (lease6_told l.stage (lease6_content l.lease)) (take l.variable-index LEASE6_VARIABLES)
