use Rattle.net_types.proofs.Checksum.{fit_bytes}
use Rattle.frame_link.proofs.Grammar.{packet_spelled}
use Rattle.frame_link.proofs.heard.packet_is_spelled.Goals as goal

pub returns : goal.returns
returns c = packet_spelled c.args.body.now (fit_bytes c.args.body.now c.type_inv.body)
