use Rattle.lease_evidence.proofs.OwnProofs.{each_message_is_own}
use Rattle.lease_evidence.proofs.laws.each_message_is_own.Goals as goal

pub returns : goal.returns
returns c = each_message_is_own
