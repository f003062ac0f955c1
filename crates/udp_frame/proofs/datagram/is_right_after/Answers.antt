use Rattle.std.proofs.Common.{[]}
use Rattle.udp_frame.proofs.datagram.is_right_after.Goals as goal

pub returns : goal.returns
returns c = c.sum_is_right.ensures _ (c.sum_add-2.ensures _ (c.sum_add.ensures [] c.sum_new-sum.ensures))
