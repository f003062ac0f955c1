use Rattle.std.proofs.Common.{rules, arith}
use Rattle.net_types.proofs.Checksum.{fit_bytes}
use Rattle.udp_frame.specs.Udp6Frames.{said6}
use Rattle.udp_frame.proofs.Laws6.{alone_is_heard6, frame_is_heard6, frame_len6, said_is_heard6}
use Rattle.udp_frame.proofs.heard.udp6_is_heard.Goals as goal

pub returns-clause-len : goal.returns-clause-len
returns-clause-len c = frame_len6 c.args.ends c.args.from_port c.args.to_port c.args.payload.now (search rules) (search rules)

pub returns-clause-frame : goal.returns-clause-frame
returns-clause-frame c =
    frame_is_heard6 c.args.ends c.args.from_port c.args.to_port c.args.payload.now (search rules) (search rules)

pub returns-clause-packet : goal.returns-clause-packet
returns-clause-packet c =
    alone_is_heard6 (said6 c.args.ends.from c.args.ends.to c.args.from_port c.args.to_port c.args.payload.now) (search rules) (search rules)
    (search rules) (search rules) (omega (arith, c.requires)) (fit_bytes c.args.payload.now c.type_inv.payload)

pub returns-clause-padded : goal.returns-clause-padded
returns-clause-padded c =
    said_is_heard6 (said6 c.args.ends.from c.args.ends.to c.args.from_port c.args.to_port c.args.payload.now) c.args.padding.now (search rules) (search rules)
    (search rules) (search rules) (omega (arith, c.requires)) (fit_bytes c.args.payload.now c.type_inv.payload)
