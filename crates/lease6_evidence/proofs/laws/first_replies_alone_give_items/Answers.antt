use Rattle.lease6_evidence.proofs.WantProofs.{first_alone_gives}
use Rattle.lease6_evidence.proofs.laws.first_replies_alone_give_items.Goals as goal

pub returns : goal.returns
returns c = first_alone_gives
