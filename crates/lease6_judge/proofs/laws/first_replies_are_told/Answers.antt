use Rattle.lease6_judge.proofs.Numbering.{first_told}
use Rattle.lease6_judge.proofs.laws.first_replies_are_told.Goals as goal

pub returns : goal.returns
returns c = first_told
