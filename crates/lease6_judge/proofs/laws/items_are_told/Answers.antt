use Rattle.lease6_judge.proofs.Judging.{items_told}
use Rattle.lease6_judge.proofs.laws.items_are_told.Goals as goal

pub returns : goal.returns
returns c = items_told
