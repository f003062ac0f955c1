use Rattle.std.proofs.Common.{◌≡◌, ◌++◌, take}
use Rattle.std.specs.Prelude.{flat_map}
use Rattle.client_model.specs.WantedRows.{item_rows}
use Rattle.client_core.proofs.lease6_rows.push_items.Given as goal

abbrev pub invariant-loop-item : goal.invariant-loop-item
invariant-loop-item l = l.rows ≡ l.initial.rows ++ flat_map (item_rows l.outlet l.shares l.kind) (take l.item-index l.items)
