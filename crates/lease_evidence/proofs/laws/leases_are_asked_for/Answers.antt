use Rattle.lease_evidence.proofs.AskingProofs.{needs_request, lasts_from_request}
use Rattle.lease_evidence.proofs.laws.leases_are_asked_for.Goals as goal

pub returns-clause-asked : goal.returns-clause-asked
returns-clause-asked c = needs_request

pub returns-clause-lasts : goal.returns-clause-lasts
returns-clause-lasts c = lasts_from_request
