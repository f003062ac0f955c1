use Rattle.std.proofs.Common.{◌≡◌, length, rules}
use Rattle.frame_link.proofs.Cells.{six_cells}
use Rattle.frame_link.proofs.arp.arp_frame.Goals as goal

pub returns : goal.returns
returns c =
    let len : length c.args.mac.bytes ≡ 6 = search rules in
    rw (six_cells c.args.mac.bytes len, c.octets-ip.ensures, c.octets-wanted.ensures) (search rules)
