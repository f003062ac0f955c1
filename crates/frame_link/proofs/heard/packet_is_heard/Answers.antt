use Rattle.std.proofs.Common.{rules}
use Rattle.frame_link.proofs.Laws.{one_or_two, packet_heard}
use Rattle.frame_link.proofs.heard.packet_is_heard.Goals as goal

pub returns : goal.returns
returns c =
    packet_heard c.args.said c.args.target_mac c.args.rest.now (one_or_two c.args.said.op c.requires.least c.requires.most) (search rules) (search rules)
    (search rules) (search rules)
