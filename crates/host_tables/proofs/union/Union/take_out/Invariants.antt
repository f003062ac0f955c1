use Rattle.std.proofs.Common.{ℕ, ◌≡◌, not, ◌&&◌, ◌+◌, ◌*◌, ◌^◌, ◌<◌, ◌≤◌, take, vec_len}
use Rattle.std.specs.Prelude.{◌==◌}
use Rattle.std.specs.Vec.{vec_capacity}
use Rattle.world.specs.declared.rows.HostRow.{HostRow}
use Rattle.world.specs.RowOrder.{has_row}
use Rattle.host_tables.specs.Bringings.{InBringingOrder, has_bringing}
use Rattle.host_tables.proofs.union.Union.take_out.Given as goal

abbrev pub invariant-loop-row : goal.invariant-loop-row
invariant-loop-row g l = record {
  wanted : l.self.wanted ≡ l.initial.self.wanted;
  brought : (q : HostRow) (at : ℕ)
      → has_bringing l.self.brought.items q at
      ≡ (has_bringing l.initial.self.brought.items q at && not ((at == l.place) && has_row (take l.row-index l.rows) q));
  each_once : InBringingOrder l.self.brought.items;
  len : vec_len l.self.brought ≤ vec_len l.initial.self.brought;
  capacity : vec_capacity l.initial.self.brought ≤ vec_capacity l.self.brought;
  grows : l.initial.steps ≤ l.steps;
  steps : (n : ℕ) → vec_len l.initial.self.brought < 2 ^ n → l.steps ≤ l.initial.steps + l.row-index * n;
}
