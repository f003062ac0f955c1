use Rattle.net_types.proofs.Checksum.{fit_bytes}
use Rattle.lease6_text.proofs.typed.bytes_are_typed.Goals as goal

pub returns : goal.returns
returns c = fit_bytes c.args.bytes.now c.type_inv.bytes
