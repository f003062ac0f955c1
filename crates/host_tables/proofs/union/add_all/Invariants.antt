use Rattle.std.proofs.Common.{ℕ, ◌≡◌, ◌||◌, ◌+◌, ◌*◌, ◌^◌, ◌<◌, ◌≤◌, length, take, vec_len}
use Rattle.std.specs.Vec.{vec_capacity}
use Rattle.world.specs.declared.rows.HostRow.{HostRow}
use Rattle.world.specs.RowOrder.{has_row}
use Rattle.host_model.specs.HostTable.{InRowOrder}
use Rattle.host_tables.proofs.union.add_all.Given as goal

abbrev pub invariant-loop-row : goal.invariant-loop-row
invariant-loop-row g l = record {
  has : (q : HostRow) → has_row l.all.items q ≡ (has_row l.initial.all.items q || has_row (take l.row-index l.rows) q);
  in_order : InRowOrder l.all.items;
  len : vec_len l.all ≤ vec_len l.initial.all + l.row-index;
  capacity : vec_capacity l.initial.all ≤ vec_capacity l.all;
  grows : l.initial.steps ≤ l.steps;
  steps : (n : ℕ) → vec_len l.all < 2 ^ n → l.steps ≤ l.initial.steps + l.row-index * n;
}
