use Rattle.lab_laws.proofs.SaidFrames.{each_message_is_read}
use Rattle.lab_laws.proofs.laws.each_message_is_read.Goals as goal

pub returns : goal.returns
returns c = each_message_is_read
