use Rattle.lease_evidence.proofs.LawProofs.{ends_with_lease}
use Rattle.lease_evidence.proofs.laws.leases_end.Goals as goal

pub returns : goal.returns
returns c = ends_with_lease
