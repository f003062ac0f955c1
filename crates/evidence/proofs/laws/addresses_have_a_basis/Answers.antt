use Rattle.lease6_evidence.proofs.LeaseEvidence.Joining.{LeaseRelation}
use Rattle.evidence.proofs.Based.{have_basis, others_have_basis}
use Rattle.evidence.proofs.Items.{items_have_basis}
use Rattle.evidence.proofs.Leasing.{leases_based}
use Rattle.evidence.proofs.laws.addresses_have_a_basis.Goals as goal

pub returns-clause-each : goal.returns-clause-each
returns-clause-each c = have_basis LeaseRelation leases_based items_have_basis

pub returns-clause-without_dhcp : goal.returns-clause-without_dhcp
returns-clause-without_dhcp c = others_have_basis
