use Rattle.counted_search.proofs.FirstKeys.{begins_there, begins_missing}
use Rattle.counted_search.proofs.first.beginning.Goals as goal

pub returns-in-Ok-clause-begins : goal.returns-in-Ok-clause-begins
returns-in-Ok-clause-begins g c =
    begins_there g.met.K.Ord.total c.args.key.now c.args.keys.now c.requires c.in-Ok.place c.in-Ok.ensures.within c.in-Ok.ensures.place

pub returns-in-Err-clause-begins : goal.returns-in-Err-clause-begins
returns-in-Err-clause-begins g c =
    begins_missing g.met.K.Ord.total c.args.key.now c.args.keys.now c.requires c.in-Err.place c.in-Err.ensures.place
