use Rattle.std.proofs.Common.{sym, ap, ◌∙◌, Some}
use Rattle.net_types.proofs.ListLaws.{list_bad, list_more, list_last, list_last_bad, split_smaller}
use Rattle.net_types.proofs.cutting.list_of.Goals as goal

pub returns-in_default-from_text : goal.returns-in_default-from_text
returns-in_default-from_text g c =
    sym
    (list_bad g.T.FromText.found c.args.separator _ c.parts.items.items c.parts.rest.now c.in-Some.part.now c.in-Some.others.now (sym c.in-Some.ensures)
    (sym c.from_text.ensures ∙ c.in_default-from_text.is) c.parts.invariant)

pub parts-smaller : goal.parts-smaller
parts-smaller g c = split_smaller c.args.separator c.parts.rest.now c.in-Some.part.now c.in-Some.others.now (sym c.in-Some.ensures)

pub parts-preserved : goal.parts-preserved
parts-preserved g c =
    rw c.in_ok-push.ensures.items
    (list_more g.T.FromText.found c.args.separator _ c.parts.items.items c.in-Some-from_text.item c.parts.rest.now c.in-Some.part.now c.in-Some.others.now
    (sym c.in-Some.ensures) (sym c.from_text.ensures ∙ c.in-Some-from_text.is) c.parts.invariant)

pub returns-in_default-from_text-2 : goal.returns-in_default-from_text-2
returns-in_default-from_text-2 g c =
    sym
    (list_last_bad g.T.FromText.found c.args.separator _ c.parts.items.items c.parts.rest.now (sym c.in_default.ensures)
    (sym c.from_text-2.ensures ∙ c.in_default-from_text-2.is) c.parts.invariant)

pub returns : goal.returns
returns g c =
    ap (λ xs. Some xs) c.in_ok-push-2.ensures.items
    ∙ sym
    (list_last g.T.FromText.found c.args.separator _ c.parts.items.items c.in-Some-from_text-2.last c.parts.rest.now (sym c.in_default.ensures)
    (sym c.from_text-2.ensures ∙ c.in-Some-from_text-2.is) c.parts.invariant)
