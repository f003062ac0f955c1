use Rattle.lease_judge.proofs.LeasesTold.{leases_judged}
use Rattle.lease_judge.proofs.laws.leases_are_judged.Goals as goal

pub returns : goal.returns
returns c = leases_judged
