use Rattle.std.proofs.Common.{◌≡◌, not, ◌&&◌, take}
use Rattle.world.specs.declared.rows.HostRow.{HostRow}
use Rattle.world.specs.RowOrder.{has_row}
use Rattle.host_model.specs.HostTable.{InRowOrder}
use Rattle.host_tables.proofs.diffs.take_each.Given as goal

abbrev pub invariant-loop-row : goal.invariant-loop-row
invariant-loop-row l = record {
  has : (q : HostRow) → has_row l.set.keys q ≡ (has_row l.initial.set.keys q && not (has_row (take l.row-index l.rows) q));
  in_order : InRowOrder l.initial.set.keys → InRowOrder l.set.keys;
}
