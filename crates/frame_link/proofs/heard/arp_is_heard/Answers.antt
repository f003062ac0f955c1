use Rattle.std.proofs.Common.{rules, arith, refl}
use Rattle.frame_link.specs.Packets.{request_frame}
use Rattle.frame_link.proofs.Laws.{frame_heard, request_heard}
use Rattle.frame_link.proofs.heard.arp_is_heard.Goals as goal

pub returns-clause-frame : goal.returns-clause-frame
returns-clause-frame c = frame_heard (request_frame c.args.mac c.args.sender c.args.target) refl (search rules) (omega arith)

pub returns-clause-packet : goal.returns-clause-packet
returns-clause-packet c = request_heard c.args.mac c.args.sender c.args.target (search rules) (search rules) (search rules)
