use Rattle.std.proofs.lemmas.Result.{on_ok_weaker}
use Rattle.v6_client.specs.Moves.{out_content}
use Rattle.v6_client.specs.Runs.{rebind_turned}
use Rattle.client_model.specs.declared.interfaces.Iface.{Iface}
use Rattle.client_model.specs.ClientSettings6.{runs_dhcp6}
use Rattle.client_model.specs.Dhcp6Steps.{dhcp6_step}
use Rattle.client_model.specs.IfaceSteps.{IfaceStep, silent}
use Rattle.iface_machines.specs.Outcomes.{Follows6, asked_in}
use Rattle.iface_machines.proofs.Following.{as_told}
use Rattle.iface_machines.proofs.Following6.{goes_where, with_client, goes_rebind6}
use Rattle.iface_machines.proofs.dhcp6.rebind_dhcp6.Goals as goal

pub returns : goal.returns
returns c =
    let old : Iface = c.args.iface.now in
    let step : IfaceStep = dhcp6_step old (rebind_turned c.args.at c.args.salt old.dhcp6) in
    on_ok_weaker c.follow.result
    (λ (follows : Follows6 (out_content c.in_ok-out.out) (with_client old c.rebind6.new.c) (asked_in c.args.outs.now) (asked_in c.follow.new.outs)).
    goes_where (runs_dhcp6 old.managed.conf) c.runs_dhcp6.result step (silent old) (with_client old c.rebind6.new.c) (asked_in c.args.outs.now)
    (asked_in c.follow.new.outs)
    c.runs_dhcp6.ensures c.if-not-runs_dhcp6.false
    (goes_rebind6 old c.rebind6.new.c c.args.at c.args.salt (asked_in c.args.outs.now) (asked_in c.follow.new.outs) (as_told c.args.at c.requires.at)
    (out_content c.in_ok-out.out) c.in_ok-out.ensures follows))
    c.follow.ensures
