use Rattle.lease6_evidence.proofs.OwnProofs6.{own_frames6_alone}
use Rattle.lease6_evidence.proofs.laws.own_dhcp6_messages_alone_are_read.Goals as goal

pub returns : goal.returns
returns c = own_frames6_alone
