use Rattle.std.proofs.Common.{refl}
use Rattle.frame_link.specs.Fields.{word_in}
use Rattle.udp_frame.specs.Udp6Frames.{is_checked6}
use Rattle.udp_frame.proofs.Spelled.{not_zero}
use Rattle.udp_frame.proofs.udp6.is_checked.Goals as goal

pub returns : goal.returns
unfolding is_checked6
returns c =
    let right = rw c.pseudo_header-pseudo.ensures at c.is_right_after.ensures in
    let summed = not_zero (word_in c.args.datagram.now 6) (rw c.word_at.ensures at c.if-word_at-eq0.false) in
    rw (summed, right) refl
