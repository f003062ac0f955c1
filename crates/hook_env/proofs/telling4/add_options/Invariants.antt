use Rattle.std.proofs.Common.{◌≡◌, ◌++◌, map, take, flat_map}
use Rattle.world.specs.HookCalls.{variable_of}
use Rattle.lease_text.specs.Leases.{values_content}
use Rattle.v4_options.specs.declared.table.TheConstants.{OPTIONS}
use Rattle.hook_env.specs.LeaseVariables.{option_told}
use Rattle.hook_env.proofs.telling4.add_options.Given as goal

abbrev pub invariant-loop-row : goal.invariant-loop-row
invariant-loop-row l =
    map variable_of l.into.items
    ≡ map variable_of l.fn.into.items ++ flat_map (option_told l.stage (values_content l.values)) (take l.row-index OPTIONS)
