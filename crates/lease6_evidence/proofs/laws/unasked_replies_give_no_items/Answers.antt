use Rattle.lease6_evidence.proofs.WantProofs.{silent_gives_nothing}
use Rattle.lease6_evidence.proofs.laws.unasked_replies_give_no_items.Goals as goal

pub returns : goal.returns
returns c = silent_gives_nothing
