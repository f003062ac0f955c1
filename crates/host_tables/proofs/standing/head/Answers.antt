use Rattle.std.proofs.Common.{sym, ap, subst, ◌∙◌}
use Rattle.std.specs.Ordering.{is_eq}
use Rattle.std.specs.BTreeMap.Range.{IsLeBy}
use Rattle.counted_search.specs.Ordered.{IsFirstFrom}
use Rattle.world.specs.declared.rows.HostRow.{HostRow}
use Rattle.world.specs.RowOrder.{row_cmp}
use Rattle.host_tables.specs.declared.bringing.Bringing.{Bringing}
use Rattle.host_tables.specs.Bringings.{target_of, bringing_cmp}
use Rattle.host_tables.proofs.Heads.{none_stands, other_stands, first_stands}
use Rattle.host_tables.proofs.standing.head.Goals as goal

pub returns-in-None-clause-stands : goal.returns-in-None-clause-stands
returns-in-None-clause-stands g c =
    none_stands c.args.brought.now c.args.row
    (λ k low. c.in-None.ensures.none k (subst (λ (t : HostRow). IsLeBy bringing_cmp (record { row = t; place = 0 }) k) (sym c.target-target_row.ensures) low))

pub returns-then-is_eq-clause-stands : goal.returns-then-is_eq-clause-stands
returns-then-is_eq-clause-stands g c =
    let k : Bringing = c.in-Some.first.now in
    let first : IsFirstFrom bringing_cmp c.args.brought.now (record { row = target_of c.args.row; place = 0 }) k =
    subst
    (λ (t : HostRow). IsFirstFrom bringing_cmp c.args.brought.now (record { row = t; place = 0 }) k) c.target-target_row.ensures c.in-Some.ensures.first in
    first_stands c.args.brought.now c.args.row k first.from first.least first.there
    (ap (λ (t : HostRow). is_eq (row_cmp t (target_of c.args.row))) (sym c.target.ensures)
    ∙ ap (λ (t : HostRow). is_eq (row_cmp c.target.result t)) (sym c.target-target_row.ensures) ∙ ap is_eq (sym c.compare-order.ensures.order)
    ∙ sym c.is_eq.ensures ∙ c.if-is_eq.true)

pub returns-else-is_eq-clause-stands : goal.returns-else-is_eq-clause-stands
returns-else-is_eq-clause-stands g c =
    let k : Bringing = c.in-Some.first.now in
    let first : IsFirstFrom bringing_cmp c.args.brought.now (record { row = target_of c.args.row; place = 0 }) k =
    subst
    (λ (t : HostRow). IsFirstFrom bringing_cmp c.args.brought.now (record { row = t; place = 0 }) k) c.target-target_row.ensures c.in-Some.ensures.first in
    other_stands c.args.brought.now c.args.row k first.from first.least
    (ap (λ (t : HostRow). is_eq (row_cmp t (target_of c.args.row))) (sym c.target.ensures)
    ∙ ap (λ (t : HostRow). is_eq (row_cmp c.target.result t)) (sym c.target-target_row.ensures) ∙ ap is_eq (sym c.compare-order.ensures.order)
    ∙ sym c.is_eq.ensures ∙ c.if-is_eq.false)
