use Rattle.std.proofs.Common.{[], refl}
use Rattle.udp_frame.proofs.datagram.checksum.Goals as goal

pub returns : goal.returns
returns c =
    let front = c.sum_add-2.ensures _ (c.sum_add.ensures [] c.sum_new-sum.ensures) in
    let sum = c.sum_value.ensures _ (c.sum_add-3.ensures _ front) in
    let is = rw c.header.ensures at sum in
    rw (c.sent.ensures, is) refl
