use Rattle.lease6_judge.proofs.Judging.{addresses_judged}
use Rattle.lease6_judge.proofs.laws.addresses_are_judged.Goals as goal

pub returns : goal.returns
returns c = addresses_judged
