use Rattle.lease_judge.proofs.Judging.{bases_judged}
use Rattle.lease_judge.proofs.laws.bases_are_judged.Goals as goal

pub returns : goal.returns
returns c = bases_judged
