use Rattle.std.proofs.Common.{ℕ, subst}
use Rattle.std.proofs.lemmas.Result.{on_ok_weaker}
use Rattle.v4_client.specs.Calls.{arp_step}
use Rattle.v4_client.specs.Clients.{OutContent, out_content}
use Rattle.v4_client.specs.Moves.{IsStep4}
use Rattle.client_model.specs.declared.interfaces.Iface.{Iface}
use Rattle.iface_machines.specs.Outcomes.{asked_in}
use Rattle.iface_machines.proofs.Following.{as_told, goes_dhcp4}
use Rattle.iface_machines.proofs.dhcp4.hear_packet.Goals as goal

pub returns : goal.returns
returns c =
    let old : Iface = c.args.iface.now in
    let out : OutContent = out_content c.in_ok-out.out in
    let is : IsStep4 (arp_step c.args.own.now c.args.at c.args.salt c.args.arp.now old.dhcp4) old.dhcp4 c.heard_arp4.new.c out =
    subst (λ (at : ℕ). IsStep4 (arp_step c.args.own.now at c.args.salt c.args.arp.now old.dhcp4) old.dhcp4 c.heard_arp4.new.c out)
    (as_told c.args.at c.requires.at)
    c.in_ok-out.ensures.step in
    on_ok_weaker c.follow.result
    (goes_dhcp4 c.args.at c.holds_lease-held.result old c.follow.new.iface (arp_step c.args.own.now c.args.at c.args.salt c.args.arp.now old.dhcp4) old.dhcp4
    c.heard_arp4.new.c out (asked_in c.args.outs.now) (asked_in c.follow.new.outs) c.holds_lease-held.ensures is)
    c.follow.ensures
