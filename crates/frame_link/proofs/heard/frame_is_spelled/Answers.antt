use Rattle.net_types.proofs.Checksum.{fit_bytes}
use Rattle.frame_link.proofs.Grammar.{frame_spelled}
use Rattle.frame_link.proofs.heard.frame_is_spelled.Goals as goal

pub returns : goal.returns
returns c = frame_spelled c.args.frame.now (fit_bytes c.args.frame.now c.type_inv.frame)
