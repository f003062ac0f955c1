use Rattle.lease6_evidence.proofs.LeaseEvidence.Joining.{LeaseRelation}
use Rattle.evidence.proofs.Items.{items_have_basis}
use Rattle.evidence.proofs.Leasing.{leases_based}
use Rattle.evidence.proofs.Foretold.{foretold}
use Rattle.evidence.proofs.HostRests.{opening_rests, turns_rest}
use Rattle.evidence.proofs.laws.held_addresses_have_a_basis.Goals as goal

pub returns-clause-opening : goal.returns-clause-opening
returns-clause-opening c = opening_rests LeaseRelation leases_based items_have_basis

pub returns-clause-turns : goal.returns-clause-turns
returns-clause-turns c = turns_rest LeaseRelation leases_based items_have_basis

pub returns-clause-foretold : goal.returns-clause-foretold
returns-clause-foretold c = foretold
