use Rattle.lease6_evidence.proofs.EndProofs.{ends_when_withdrawn}
use Rattle.lease6_evidence.proofs.laws.items_end_when_withdrawn.Goals as goal

pub returns : goal.returns
returns c = ends_when_withdrawn
