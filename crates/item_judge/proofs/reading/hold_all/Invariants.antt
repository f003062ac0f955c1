use Rattle.std.proofs.Common.{◌≡◌}
use Rattle.net_types.specs.declared.address.Net6.{Net6}
use Rattle.v6_options.specs.Ias.{ias_in}
use Rattle.v6_options.specs.IaViews.{ias_left}
use Rattle.lease6_judge.specs.HeardTerms.{all_items}
use Rattle.item_judge.specs.Tables.{term_at}
use Rattle.item_judge.specs.Walks.{with_saids}
use Rattle.item_judge.proofs.reading.hold_all.Given as goal

abbrev pub invariant-ias : goal.invariant-ias
invariant-ias l =
    (net : Net6) → with_saids l.came net (all_items l.ask (ias_left l.ia-iterator)) (term_at l.terms net)
    ≡ with_saids l.came net (all_items l.ask (ias_in l.options)) (term_at l.initial.terms net)
