use Rattle.std.proofs.Common.{◌≡◌, ◌∷◌, ◌∙◌, List, sym, ap, rules}
use Rattle.std.specs.List.{cons_option, filter_map}
use Rattle.v6_options.specs.declared.ia.ItemSaid.{ItemSaid}
use Rattle.v6_options.specs.IaViews.{items_left}
use Rattle.v6_items.specs.Reading.{read_item}
use Rattle.lease6_judge.specs.Terms.{Term}
use Rattle.item_judge.specs.Tables.{term_at}
use Rattle.item_judge.specs.Walks.{with_saids}
use Rattle.item_judge.proofs.Walked.{read_first}
use Rattle.item_judge.proofs.reading.hold_items.Goals as goal

pub items-preserved : goal.items-preserved
items-preserved c = λ net.
    let rest : List ItemSaid = filter_map (read_item c.args.ia.kind) (items_left c.next.new.self) in
    let left : items_left c.items.said-iterator ≡ c.in-Some.said ∷ items_left c.next.new.self = search rules in
    ap (λ (t : Term). with_saids c.args.came net rest t) (c.in_ok-hold_read.ensures net)
    ∙ sym (read_first c.args.came net (read_item c.args.ia.kind c.in-Some.said) rest (term_at c.items.terms net))
    ∙ ap (λ (s : List ItemSaid). with_saids c.args.came net (filter_map (read_item c.args.ia.kind) s) (term_at c.items.terms net)) (sym left)
    ∙ c.items.invariant net
