use Rattle.lease_evidence.proofs.EndingProofs.{ends_by_nak}
use Rattle.lease_evidence.proofs.laws.refused_leases_end.Goals as goal

pub returns : goal.returns
returns c = ends_by_nak
