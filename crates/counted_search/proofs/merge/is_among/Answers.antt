use Rattle.std.proofs.Common.{sym, ap, ◌∙◌}
use Rattle.std.specs.Ordering.{is_gt}
use Rattle.std.specs.Cmp.{tied_itself}
use Rattle.counted_search.proofs.Merges.{is_not_here}
use Rattle.counted_search.proofs.merge.is_among.Goals as goal

pub returns-in-Greater-clause-answer : goal.returns-in-Greater-clause-answer
returns-in-Greater-clause-answer g c =
    let o = g.met.K.Ord.total in
    sym (c.below.invariant.passed c.args.key.now (ap is_gt (tied_itself o c.args.key.now))
    ∙ is_not_here o c.args.keys.now c.below.place c.index-keys-place.result c.args.key.now c.requires.ordered c.below-test.true c.index-keys-place.is
    (sym c.in-Greater.ensures.order))
