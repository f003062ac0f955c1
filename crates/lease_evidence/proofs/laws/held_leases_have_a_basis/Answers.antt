use Rattle.lease_evidence.proofs.HeldRuns.{held_leases_have_basis}
use Rattle.lease_evidence.proofs.KeptNeedsProofs.{plain_leases, plain_leases_as_granted}
use Rattle.lease_evidence.proofs.laws.held_leases_have_a_basis.Goals as goal

pub returns-clause-each : goal.returns-clause-each
returns-clause-each c = held_leases_have_basis

pub returns-clause-plain : goal.returns-clause-plain
returns-clause-plain c = plain_leases

pub returns-clause-as_granted : goal.returns-clause-as_granted
returns-clause-as_granted c = plain_leases_as_granted
