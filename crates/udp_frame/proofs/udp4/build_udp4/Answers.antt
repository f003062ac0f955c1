use Rattle.std.proofs.Common.{◌∙◌}
use Rattle.udp_frame.proofs.Spelled.{spelled}
use Rattle.udp_frame.proofs.udp4.build_udp4.Goals as goal

pub returns-in-Ok-clause-exact : goal.returns-in-Ok-clause-exact
returns-in-Ok-clause-exact c =
    let parts = spelled c.args.ends.now c.args.from_port c.args.to_port c.args.payload.now in
    let built =
    rw
    (c.eth_header-eth.ensures, c.header-head.ensures, c.header-ports.ensures, c.checksum-sum.ensures, c.pseudo_header-pseudo.ensures) at
    c.in-Ok.ensures.exact in
    built ∙ parts
