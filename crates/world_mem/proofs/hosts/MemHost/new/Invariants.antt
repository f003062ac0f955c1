use Rattle.std.proofs.Common.{◌≡◌, All, drop}
use Rattle.world.specs.Rows.{IsRow}
use Rattle.world.specs.RowOrder.{in_row_order, put_in_order}
use Rattle.world_mem.proofs.hosts.MemHost.new.Given as goal

abbrev pub invariant-loop-row : goal.invariant-loop-row
invariant-loop-row l = (put_in_order l.held.keys (drop l.row-index l.row-items) ≡ in_row_order l.row-items) × All IsRow l.held.keys
