use Rattle.lease6_evidence.proofs.WantProofs.{addresses_are_asked}
use Rattle.lease6_evidence.proofs.laws.addresses_are_asked_for.Goals as goal

pub returns : goal.returns
returns c = addresses_are_asked
