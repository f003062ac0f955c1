use Rattle.lease6_evidence.proofs.EndProofs.{ends_with_a_stop}
use Rattle.lease6_evidence.proofs.laws.items_end_with_a_stop.Goals as goal

pub returns : goal.returns
returns c = ends_with_a_stop
