use Rattle.lease6_evidence.proofs.WantProofs.{idle_gives_nothing}
use Rattle.lease6_evidence.proofs.laws.idle_messages_give_no_items.Goals as goal

pub returns : goal.returns
returns c = idle_gives_nothing
