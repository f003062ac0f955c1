use Rattle.lease_evidence.proofs.LawProofs.{needs_ack}
use Rattle.lease_evidence.proofs.laws.leases_are_granted.Goals as goal

pub returns : goal.returns
returns c = needs_ack
