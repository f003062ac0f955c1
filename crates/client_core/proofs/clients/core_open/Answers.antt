use Rattle.std.proofs.Common.{List, [], map, subst, sym}
use Rattle.machine.specs.Moment.{moment_of}
use Rattle.net_types.specs.declared.address.Mac.{Mac}
use Rattle.client_model.specs.declared.interfaces.Iface.{Iface}
use Rattle.client_model.specs.Interfaces.{opened}
use Rattle.client_model.specs.Clients.{joined}
use Rattle.client_model.specs.Fitting.{AreIfaces}
use Rattle.iface_core.specs.Beginnings.{beginning_of}
use Rattle.iface_core.specs.Outcomes.{asked_in}
use Rattle.client_core.specs.Running.{IsRunning}
use Rattle.client_core.specs.Stepping.{Steps}
use Rattle.client_core.proofs.Joined.{joined_steps, joined_on}
use Rattle.client_core.proofs.clients.core_open.Goals as goal

pub of-requires : goal.of-requires
of-requires c = subst AreIfaces (sym c.deref.ensures.value) c.in_ok-ifaces.ensures.fit

pub invariant_of-core : goal.invariant_of-core
invariant_of-core c =
    subst (IsRunning c.in_ok-ifaces.ifaces.items) (sym c.in_ok-kept.ensures.ok)
    (subst (λ (ifaces : List Iface). IsRunning ifaces c.in_ok-all.all) c.deref.ensures.value c.in_ok-all.ensures)

pub returns-clause-steps : goal.returns-clause-steps
returns-clause-steps c =
    subst
    (λ (own : List Mac). Steps
    (joined own [] (map (opened c.args.begin.up (moment_of c.args.begin.at) c.args.begin.salt) (map beginning_of c.args.beginnings.items)))
    (record { own = c.in_ok-own.own.items; ifaces = c.in_ok-ifaces.ifaces.items }) (asked_in c.opened_ifaces.new.outs)) c.in_ok-own.ensures
    (joined_steps (opened c.args.begin.up (moment_of c.args.begin.at) c.args.begin.salt) (map beginning_of c.args.beginnings.items) c.in_ok-own.own.items []
    c.in_ok-ifaces.ifaces.items (asked_in c.new-outs.result) (asked_in c.opened_ifaces.new.outs) c.new-outs.ensures c.in_ok-ifaces.ensures.goes)

pub returns-clause-on_interfaces : goal.returns-clause-on_interfaces
returns-clause-on_interfaces c =
    joined_on (opened c.args.begin.up (moment_of c.args.begin.at) c.args.begin.salt) (map beginning_of c.args.beginnings.items) c.in_ok-ifaces.ifaces.items
    (asked_in c.new-outs.result) (asked_in c.opened_ifaces.new.outs) c.new-outs.ensures c.in_ok-ifaces.ensures.goes
    c.in_ok-ifaces.ensures.fit
