use Rattle.lease_judge.proofs.Judging.{grants_judged}
use Rattle.lease_judge.proofs.laws.grants_are_judged.Goals as goal

pub returns : goal.returns
returns c = grants_judged
