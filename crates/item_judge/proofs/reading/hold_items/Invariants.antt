use Rattle.std.proofs.Common.{◌≡◌}
use Rattle.std.specs.List.{filter_map}
use Rattle.net_types.specs.declared.address.Net6.{Net6}
use Rattle.v6_options.specs.IaViews.{ia_shown, items_left}
use Rattle.v6_items.specs.Reading.{read_item}
use Rattle.item_judge.specs.Tables.{term_at}
use Rattle.item_judge.specs.Walks.{front_all, with_saids}
use Rattle.item_judge.proofs.reading.hold_items.Given as goal

abbrev pub invariant-items : goal.invariant-items
invariant-items l =
    (net : Net6) → with_saids l.came net (filter_map (read_item l.ia.kind) (items_left l.said-iterator)) (term_at l.terms net)
    ≡ with_saids l.came net (front_all (ia_shown l.ia)) (term_at l.initial.terms net)
