use Rattle.lease6_evidence.proofs.EndProofs.{ends_with_the_carrier}
use Rattle.lease6_evidence.proofs.laws.items_end_with_the_carrier.Goals as goal

pub returns : goal.returns
returns c = ends_with_the_carrier
