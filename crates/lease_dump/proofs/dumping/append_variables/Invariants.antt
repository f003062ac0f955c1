-- The lines of the variables so far are appended.
use Rattle.std.proofs.Common.{◌≡◌, ◌++◌, map, take}
use Rattle.world.specs.HookCalls.{variable_of}
use Rattle.lease_dump.specs.Dumps.{variables_text}
use Rattle.lease_dump.proofs.dumping.append_variables.Given as goal

abbrev pub invariant-loop-variable : goal.invariant-loop-variable
invariant-loop-variable l = l.into.items ≡ l.initial.into.items ++ variables_text (map variable_of (take l.variable-index l.vars))
