use Rattle.lease_judge.proofs.LeasesTold.{probes_judged}
use Rattle.lease_judge.proofs.laws.probes_are_judged.Goals as goal

pub returns : goal.returns
returns c = probes_judged
