use Rattle.lease6_evidence.proofs.EndProofs.{ends_with_a_release}
use Rattle.lease6_evidence.proofs.laws.items_end_with_a_release.Goals as goal

pub returns : goal.returns
returns c = ends_with_a_release
