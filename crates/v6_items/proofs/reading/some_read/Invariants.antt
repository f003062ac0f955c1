use Rattle.std.proofs.Common.{◌≡◌}
use Rattle.std.specs.List.{list_any}
use Rattle.v6_options.specs.IaViews.{ia_shown, items_left}
use Rattle.v6_items.specs.Reading.{is_read, some_read}
use Rattle.v6_items.proofs.reading.some_read.Given as goal

abbrev pub invariant-items : goal.invariant-items
invariant-items l = list_any (is_read l.ia.kind) (items_left l.said-iterator) ≡ some_read (ia_shown l.ia)
