use Rattle.lease_evidence.proofs.LawProofs.{foreign_gives_nothing}
use Rattle.lease_evidence.proofs.laws.foreign_replies_give_nothing.Goals as goal

pub returns : goal.returns
returns c = foreign_gives_nothing
