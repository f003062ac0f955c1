use Rattle.lease6_evidence.proofs.EndProofs.{ends_when_unknown}
use Rattle.lease6_evidence.proofs.laws.items_end_when_unknown.Goals as goal

pub returns : goal.returns
returns c = ends_when_unknown
