use Rattle.std.proofs.Common.{◌≡◌, ◌≤◌, ◌++◌, length, take}
use Rattle.std.specs.List.{filter_map}
use Rattle.v6_options.specs.IaViews.{ia_shown, items_left}
use Rattle.v6_items.specs.Reading.{front_items, read_item}
use Rattle.v6_items.proofs.reading.collected.Given as goal

abbrev pub invariant-items : goal.invariant-items
invariant-items l = record {
  saids : take 4 (l.saids.items ++ filter_map (read_item l.ia.kind) (items_left l.said-iterator)) ≡ front_items (ia_shown l.ia);
  few : length l.saids.items ≤ 4;
}
