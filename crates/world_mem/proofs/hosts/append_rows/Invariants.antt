use Rattle.std.proofs.Common.{◌≡◌, ◌≤◌, ◌++◌, length}
use Rattle.world_mem.proofs.hosts.append_rows.Given as goal

abbrev pub invariant-loop-row : goal.invariant-loop-row
invariant-loop-row l = (l.rows.items ++ l.row-iterator ≡ l.initial.rows.items ++ l.held.keys) × (length l.initial.rows.items ≤ length l.rows.items)
