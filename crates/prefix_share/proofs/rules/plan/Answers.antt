use Rattle.std.proofs.Common.{sym, ◌∙◌}
use Rattle.prefix_share.proofs.Fronts.{fault_at, next_plan, refused_plan}
use Rattle.prefix_share.proofs.rules.plan.Goals as goal

pub returns-in-Some-clause-taken : goal.returns-in-Some-clause-taken
returns-in-Some-clause-taken c =
    refused_plan c.args.shares.now
    (fault_at c.args.shares.now c.loop-index.index _ c.in-Some.cause c.loop-index-test.true c.loop-index.invariant (sym c.broken_by.ensures ∙ c.in-Some.is))

pub returns-in-Some-clause-refused : goal.returns-in-Some-clause-refused
returns-in-Some-clause-refused c =
    fault_at c.args.shares.now c.loop-index.index _ c.in-Some.cause c.loop-index-test.true c.loop-index.invariant (sym c.broken_by.ensures ∙ c.in-Some.is)

pub loop-index-preserved : goal.loop-index-preserved
loop-index-preserved c =
    next_plan c.args.shares.now c.loop-index.index _ c.loop-index-test.true c.loop-index.invariant (sym c.broken_by.ensures ∙ c.in_default.is)
