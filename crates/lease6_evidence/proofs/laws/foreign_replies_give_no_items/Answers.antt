use Rattle.lease6_evidence.proofs.LawProofs.{foreign_gives_nothing}
use Rattle.lease6_evidence.proofs.laws.foreign_replies_give_no_items.Goals as goal

pub returns : goal.returns
returns c = foreign_gives_nothing
