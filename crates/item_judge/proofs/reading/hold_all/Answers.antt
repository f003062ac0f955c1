use Rattle.std.proofs.Common.{◌≡◌, ◌∷◌, ◌∙◌, List, sym, ap, rules}
use Rattle.v6_options.specs.Ias.{IaContent}
use Rattle.v6_options.specs.IaViews.{ia_shown, ias_left}
use Rattle.lease6_judge.specs.HeardTerms.{all_items, items_if_of}
use Rattle.lease6_judge.specs.Terms.{Term}
use Rattle.item_judge.specs.Tables.{term_at}
use Rattle.item_judge.specs.Walks.{with_saids}
use Rattle.item_judge.proofs.Walked.{one_by_one}
use Rattle.item_judge.proofs.reading.hold_all.Goals as goal

pub ias-preserved : goal.ias-preserved
ias-preserved c = λ net.
    let rest = all_items c.args.ask (ias_left c.next.new.self) in
    let left : ias_left c.ias.ia-iterator ≡ ia_shown c.in-Some.ia ∷ ias_left c.next.new.self = search rules in
    ap (λ (t : Term). with_saids c.args.came net rest t) (c.in_ok-hold_ia.ensures net)
    ∙ sym (one_by_one c.args.came net (items_if_of c.args.ask (ia_shown c.in-Some.ia)) rest (term_at c.ias.terms net))
    ∙ ap (λ (s : List IaContent). with_saids c.args.came net (all_items c.args.ask s) (term_at c.ias.terms net)) (sym left)
    ∙ c.ias.invariant net
