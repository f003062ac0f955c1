use Rattle.std.proofs.Common.{◌≤◌, length, sym, ◌∙◌, arith}
use Rattle.conf_directives.proofs.OrderedShares.{none_more, one_more, plan_of_neighbours}
use Rattle.conf_directives.proofs.shares.neighbours_fit.Goals as goal

pub returns-then-not-fit : goal.returns-then-not-fit
returns-then-not-fit c =
    none_more c.args.shares.now c.loop-place.place _ c.loop-place.auto.place c.loop-place-test.true (sym c.fit.ensures ∙ c.if-not-fit.true)

pub loop-place-preserved : goal.loop-place-preserved
loop-place-preserved c =
    one_more c.args.shares.now c.loop-place.place _ c.loop-place.auto.place c.loop-place-test.true c.loop-place.invariant
    (sym c.fit.ensures ∙ c.if-not-fit.false)

pub returns : goal.returns
returns c =
    let some : 2 ≤ length c.args.shares.now = omega (arith, c.if-shares-lt2.false) in
    sym
    (plan_of_neighbours c.args.shares.now c.requires some
    (λ i j d next inside. c.loop-place.invariant i j d next (omega (arith, inside, c.loop-place-test.false))))
