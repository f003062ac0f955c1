use Rattle.std.proofs.lemmas.Result.{on_ok_weaker}
use Rattle.iface_machines.specs.Outcomes.{asked_in}
use Rattle.iface_core.proofs.Carriers.{goes_comes}
use Rattle.iface_core.proofs.interfaces.gain_carrier.Goals as goal

pub returns : goal.returns
returns c =
    on_ok_weaker c.begin.result
    (goes_comes c.args.at c.args.salt c.args.iface.now c.begin.new.iface (asked_in c.args.outs.now) (asked_in c.tell_carrier_came.new.self)
    (asked_in c.begin.new.outs)
    c.in_ok-tell_carrier_came.ensures)
    c.begin.ensures
