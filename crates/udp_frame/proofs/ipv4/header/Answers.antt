use Rattle.std.proofs.Common.{[], refl}
use Rattle.udp_frame.proofs.ipv4.header.Goals as goal

pub returns : goal.returns
returns c =
    let sum = c.sum_value.ensures _ (c.sum_add.ensures [] c.sum_new-sum.ensures) in
    let is = rw c.header_with.ensures at sum in
    rw (c.header_with-2.ensures, is) refl
