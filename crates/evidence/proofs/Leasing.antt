-- Each lease that is held has its basis.
use Rattle.lease6_evidence.proofs.LeaseEvidence.Joining.{LeaseRelation, lease_carried, lease_based}
use Rattle.evidence.proofs.Based.{AreBased}

pub leases_based : AreBased LeaseRelation
leases_based = record { carried = lease_carried; based = lease_based }
