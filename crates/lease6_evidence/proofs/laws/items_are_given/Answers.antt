use Rattle.lease6_evidence.proofs.LawProofs.{needs_reply}
use Rattle.lease6_evidence.proofs.laws.items_are_given.Goals as goal

pub returns : goal.returns
returns c = needs_reply
