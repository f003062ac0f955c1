use Rattle.std.proofs.Common.{◌≡◌, take}
use Rattle.world.specs.RowOrder.{in_row_order}
use Rattle.life_asks.proofs.hosts.row_set.Given as goal

abbrev pub invariant-loop-row : goal.invariant-loop-row
invariant-loop-row l = l.set.keys ≡ in_row_order (take l.row-index l.rows)
