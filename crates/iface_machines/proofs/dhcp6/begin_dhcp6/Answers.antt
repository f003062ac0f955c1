use Rattle.std.proofs.lemmas.Result.{on_ok_weaker}
use Rattle.v6_client.specs.declared.states.Carrier6.TheVariants.{Up}
use Rattle.v6_client.specs.Moves.{out_content}
use Rattle.v6_client.specs.Runs.{carrier_turned}
use Rattle.client_model.specs.declared.interfaces.Iface.{Iface}
use Rattle.client_model.specs.ClientSettings6.{runs_dhcp6}
use Rattle.client_model.specs.Dhcp6Steps.{dhcp6_step}
use Rattle.client_model.specs.IfaceSteps.{IfaceStep, silent}
use Rattle.iface_machines.specs.Outcomes.{Follows6, asked_in}
use Rattle.iface_machines.proofs.Following.{as_told}
use Rattle.iface_machines.proofs.Following6.{goes_where, with_client, goes_carrier6}
use Rattle.iface_machines.proofs.dhcp6.begin_dhcp6.Goals as goal

pub returns : goal.returns
returns c =
    let old : Iface = c.args.iface.now in
    let step : IfaceStep = dhcp6_step old (carrier_turned Up c.args.at c.args.salt old.dhcp6) in
    on_ok_weaker c.follow.result
    (λ (follows : Follows6 (out_content c.in_ok-out.out) (with_client old c.carrier6.new.c) (asked_in c.args.outs.now) (asked_in c.follow.new.outs)).
    goes_where (runs_dhcp6 old.managed.conf) c.runs_dhcp6.result step (silent old) (with_client old c.carrier6.new.c) (asked_in c.args.outs.now)
    (asked_in c.follow.new.outs)
    c.runs_dhcp6.ensures c.if-not-runs_dhcp6.false
    (goes_carrier6 old c.carrier6.new.c c.args.at c.args.salt (asked_in c.args.outs.now) (asked_in c.follow.new.outs) (as_told c.args.at c.requires.at)
    Up (out_content c.in_ok-out.out) c.in_ok-out.ensures follows))
    c.follow.ensures
