use Rattle.std.proofs.Common.{rules}
use Rattle.net_types.proofs.Checksum.{fit_bytes}
use Rattle.v6_frames.proofs.ServersHeard.{is_heard}
use Rattle.v6_frames.proofs.laws.frames_to_the_client_are_heard.Goals as goal

pub returns : goal.returns
returns c =
    is_heard c.args.ends c.args.from_port c.args.payload.now (search rules) (search rules) (search rules) (search rules) (search rules) c.requires.len
    (fit_bytes c.args.payload.now c.type_inv.payload) c.requires.to
