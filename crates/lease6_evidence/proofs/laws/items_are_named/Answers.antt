use Rattle.lease6_evidence.proofs.WantProofs.{needs_its_name}
use Rattle.lease6_evidence.proofs.laws.items_are_named.Goals as goal

pub returns : goal.returns
returns c = needs_its_name
