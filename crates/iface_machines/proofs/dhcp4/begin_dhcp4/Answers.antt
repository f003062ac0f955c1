use Rattle.std.proofs.Common.{ℕ, subst}
use Rattle.std.proofs.lemmas.Result.{on_ok_weaker}
use Rattle.v4_client.specs.declared.states.Carrier.TheVariants.{Up}
use Rattle.v4_client.specs.Calls.{carrier_step}
use Rattle.v4_client.specs.Clients.{OutContent, out_content}
use Rattle.v4_client.specs.Moves.{IsStep4}
use Rattle.client_model.specs.declared.interfaces.Iface.{Iface}
use Rattle.client_model.specs.ClientSettings.{runs_dhcp4}
use Rattle.client_model.specs.Dhcp4Steps.{dhcp4_step}
use Rattle.client_model.specs.IfaceSteps.{IfaceStep, silent}
use Rattle.iface_machines.specs.Outcomes.{Follows, asked_in}
use Rattle.iface_machines.proofs.Following.{as_told, goes_dhcp4}
use Rattle.iface_machines.proofs.Following6.{goes_where}
use Rattle.iface_machines.proofs.dhcp4.begin_dhcp4.Goals as goal

pub returns : goal.returns
returns c =
    let old : Iface = c.args.iface.now in
    let out : OutContent = out_content c.in_ok-out.out in
    let step : IfaceStep = dhcp4_step c.args.at old (carrier_step Up c.args.at c.args.salt old.dhcp4) in
    let is : IsStep4 (carrier_step Up c.args.at c.args.salt old.dhcp4) old.dhcp4 c.carrier4.new.c out =
    subst (λ (at : ℕ). IsStep4 (carrier_step Up at c.args.salt old.dhcp4) old.dhcp4 c.carrier4.new.c out)
    (as_told c.args.at c.requires.at) c.in_ok-out.ensures.step in
    on_ok_weaker c.follow.result
    (λ
    (follows : Follows c.args.at c.holds_lease-held.result out (record old { dhcp4 = c.carrier4.new.c }) c.follow.new.iface (asked_in c.args.outs.now)
    (asked_in c.follow.new.outs)).
    goes_where (runs_dhcp4 old.managed.conf) c.runs_dhcp4.result step (silent old) c.follow.new.iface (asked_in c.args.outs.now) (asked_in c.follow.new.outs)
    c.runs_dhcp4.ensures c.if-not-runs_dhcp4.false
    (goes_dhcp4 c.args.at c.holds_lease-held.result old c.follow.new.iface (carrier_step Up c.args.at c.args.salt old.dhcp4) old.dhcp4 c.carrier4.new.c out
    (asked_in c.args.outs.now) (asked_in c.follow.new.outs) c.holds_lease-held.ensures is follows))
    c.follow.ensures
