use Rattle.std.proofs.lemmas.Result.{on_ok_weaker}
use Rattle.v6_frames.specs.Heard.{heard_shown}
use Rattle.v6_client.specs.Moves.{out_content}
use Rattle.iface_machines.specs.Outcomes.{asked_in}
use Rattle.iface_machines.proofs.Following.{as_told}
use Rattle.iface_machines.proofs.Following6.{goes_heard6}
use Rattle.iface_machines.proofs.dhcp6.hear_message6.Goals as goal

pub returns : goal.returns
returns c =
    on_ok_weaker c.follow.result
    (goes_heard6 c.args.iface.now c.heard6.new.c c.args.at c.args.salt (asked_in c.args.outs.now) (asked_in c.follow.new.outs) (as_told c.args.at c.requires.at)
    (heard_shown c.args.heard.now) (out_content c.in_ok-out.out) c.in_ok-out.ensures.step)
    c.follow.ensures
