use Rattle.std.proofs.lemmas.Result.{on_ok_weaker}
use Rattle.client_model.specs.declared.interfaces.Iface.{Iface}
use Rattle.client_model.specs.Dhcp4Steps.{begin_dhcp4, begin_local}
use Rattle.client_model.specs.Dhcp6Steps.{begin_dhcp6}
use Rattle.client_model.specs.IfaceSteps.{IfaceStep}
use Rattle.client_model.proofs.SameInterfaces.{begin_local_same, begin_same, begin6_same}
use Rattle.iface_machines.specs.Outcomes.{asked_in}
use Rattle.iface_machines.proofs.Following6.{fits_about, goes_about}
use Rattle.iface_core.proofs.interfaces.begin.Goals as goal

pub returns : goal.returns
returns c =
    let first : IfaceStep = begin_dhcp4 c.args.at c.args.salt c.args.iface.now in
    let armed : Iface = (begin_local c.args.at first.iface).iface in
    on_ok_weaker c.begin_dhcp6.result
    (goes_about first (begin_local c.args.at) (begin_dhcp6 c.args.at c.args.salt) c.begin_dhcp4.new.iface c.begin_local.new.iface c.begin_dhcp6.new.iface
    (asked_in c.args.outs.now) (asked_in c.begin_dhcp4.new.outs) (asked_in c.begin_dhcp6.new.outs) (begin_local_same c.args.at first.iface)
    (begin6_same c.args.at c.args.salt armed) c.in_ok-begin_dhcp4.ensures c.begin_local.ensures)
    c.begin_dhcp6.ensures

pub begin_dhcp6-requires-clause-fits : goal.begin_dhcp6-requires-clause-fits
begin_dhcp6-requires-clause-fits c =
    let first : IfaceStep = begin_dhcp4 c.args.at c.args.salt c.args.iface.now in
    fits_about c.args.iface.now first (begin_local c.args.at) c.begin_dhcp4.new.iface c.begin_local.new.iface (asked_in c.args.outs.now)
    (asked_in c.begin_dhcp4.new.outs)
    (begin_same c.args.at c.args.salt c.args.iface.now)
    (begin_local_same c.args.at first.iface) c.in_ok-begin_dhcp4.ensures c.begin_local.ensures c.requires.fits
