use Rattle.std.proofs.Common.{◌≡◌, length, rules}
use Rattle.frame_link.proofs.Cells.{six_cells}
use Rattle.udp_frame.proofs.framing.eth_header.Goals as goal

pub returns : goal.returns
returns c =
    let to_len : length c.args.to.bytes ≡ 6 = search rules in
    let from_len : length c.args.from.bytes ≡ 6 = search rules in
    rw (six_cells c.args.to.bytes to_len, six_cells c.args.from.bytes from_len, c.u16_octets-kind.ensures) (search rules)
