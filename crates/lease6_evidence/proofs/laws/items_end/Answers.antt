use Rattle.lease6_evidence.proofs.LawProofs.{ends_with_valid}
use Rattle.lease6_evidence.proofs.laws.items_end.Goals as goal

pub returns : goal.returns
returns c = ends_with_valid
