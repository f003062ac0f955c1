use Rattle.std.proofs.lemmas.Result.{on_ok_weaker}
use Rattle.iface_machines.specs.Outcomes.{asked_in}
use Rattle.iface_machines.proofs.Following.{as_told}
use Rattle.iface_machines.proofs.Following6.{goes_tick6}
use Rattle.iface_machines.proofs.dhcp6.tick_dhcp6.Goals as goal

pub returns : goal.returns
returns c =
    on_ok_weaker c.follow.result
    (goes_tick6 c.args.iface.now c.tick.new.self c.args.at c.args.salt (asked_in c.args.outs.now) (asked_in c.follow.new.outs)
    (as_told c.args.at c.requires.at) c.in_ok-out.out
    c.in_ok-out.ensures)
    c.follow.ensures
