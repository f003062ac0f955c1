use Rattle.lease_evidence.proofs.KeptNeedsProofs.{kept_ends_by_nak, kept_ends_by_saying, kept_ends_by_server, needs_asking, needs_one_exchange}
use Rattle.lease_evidence.proofs.laws.kept_leases_are_asked_for_alone.Goals as goal

pub returns-clause-asked : goal.returns-clause-asked
returns-clause-asked c = needs_asking

pub returns-clause-others : goal.returns-clause-others
returns-clause-others c = kept_ends_by_saying

pub returns-clause-server : goal.returns-clause-server
returns-clause-server c = kept_ends_by_server

pub returns-clause-exchange : goal.returns-clause-exchange
returns-clause-exchange c = needs_one_exchange

pub returns-clause-refused : goal.returns-clause-refused
returns-clause-refused c = kept_ends_by_nak
