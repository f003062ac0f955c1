use Rattle.std.proofs.lemmas.Result.{on_ok_weaker}
use Rattle.client_model.specs.declared.interfaces.Iface.{Iface}
use Rattle.client_model.specs.Dhcp4Steps.{arms, rebind_dhcp4}
use Rattle.client_model.specs.Dhcp6Steps.{rebind_dhcp6}
use Rattle.client_model.specs.IfaceSteps.{IfaceStep}
use Rattle.client_model.proofs.SameInterfaces.{arms_same, rebind_same, rebind6_same}
use Rattle.iface_machines.specs.Outcomes.{asked_in}
use Rattle.iface_machines.proofs.Following6.{fits_about, goes_about}
use Rattle.iface_core.proofs.interfaces.rebind_machines.Goals as goal

pub returns : goal.returns
returns c =
    let first : IfaceStep = rebind_dhcp4 c.args.at c.args.salt c.args.iface.now in
    let armed : Iface = (arms c.args.at first.iface).iface in
    on_ok_weaker c.rebind_dhcp6.result
    (goes_about first (arms c.args.at) (rebind_dhcp6 c.args.at c.args.salt) c.rebind_dhcp4.new.iface c.arm_unless_held.new.iface c.rebind_dhcp6.new.iface
    (asked_in c.args.outs.now) (asked_in c.rebind_dhcp4.new.outs) (asked_in c.rebind_dhcp6.new.outs) (arms_same c.args.at first.iface)
    (rebind6_same c.args.at c.args.salt armed) c.in_ok-rebind_dhcp4.ensures c.arm_unless_held.ensures)
    c.rebind_dhcp6.ensures

pub rebind_dhcp6-requires-clause-fits : goal.rebind_dhcp6-requires-clause-fits
rebind_dhcp6-requires-clause-fits c =
    let first : IfaceStep = rebind_dhcp4 c.args.at c.args.salt c.args.iface.now in
    fits_about c.args.iface.now first (arms c.args.at) c.rebind_dhcp4.new.iface c.arm_unless_held.new.iface (asked_in c.args.outs.now)
    (asked_in c.rebind_dhcp4.new.outs)
    (rebind_same c.args.at c.args.salt c.args.iface.now)
    (arms_same c.args.at first.iface) c.in_ok-rebind_dhcp4.ensures c.arm_unless_held.ensures c.requires.fits
