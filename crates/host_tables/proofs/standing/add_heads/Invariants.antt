use Rattle.std.proofs.Common.{ℕ, ◌≡◌, ◌||◌, ◌+◌, ◌*◌, ◌^◌, ◌<◌, ◌≤◌, length, take, vec_len}
use Rattle.std.specs.Vec.{vec_capacity}
use Rattle.world.specs.declared.rows.HostRow.{HostRow}
use Rattle.world.specs.RowOrder.{has_row}
use Rattle.host_model.specs.HostTable.{InRowOrder}
use Rattle.host_tables.specs.Bringings.{rows_in, stands_for}
use Rattle.host_tables.proofs.standing.add_heads.Given as goal

abbrev pub invariant-loop-row : goal.invariant-loop-row
invariant-loop-row g l = record {
  has : (q : HostRow) → has_row l.heads.items q ≡ (has_row l.initial.heads.items q || stands_for (take l.row-index l.rows) (rows_in l.brought) q);
  in_order : InRowOrder l.heads.items;
  len : vec_len l.heads ≤ vec_len l.initial.heads + l.row-index;
  capacity : vec_capacity l.initial.heads ≤ vec_capacity l.heads;
  grows : l.initial.steps ≤ l.steps;
  steps : (n : ℕ) → length l.brought < 2 ^ n → vec_len l.initial.heads + length l.rows < 2 ^ (n + 1) → l.steps ≤ l.initial.steps + l.row-index * (2 * (n + 1));
}
