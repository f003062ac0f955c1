use Rattle.lease6_judge.proofs.HeardTold.{heard_told}
use Rattle.lease6_judge.proofs.laws.heard_items_are_told.Goals as goal

pub returns : goal.returns
returns c = heard_told
