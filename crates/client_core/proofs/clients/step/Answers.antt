use Rattle.std.proofs.Common.{◌≡◌, List, [], ◌++◌, map, sym, ap, subst}
use Rattle.std.specs.Global.{Vec}
use Rattle.std.specs.Vec.{with_items}
use Rattle.net_types.specs.declared.address.Mac.{Mac}
use Rattle.client_model.specs.IfaceTurns.{Turn, iface_turned}
use Rattle.client_model.specs.Clients.{Client}
use Rattle.client_model.specs.Jobs.{jobs_along}
use Rattle.world.specs.HookCalls.{Job, job_of}
use Rattle.client_model.specs.declared.interfaces.Iface.{Iface}
use Rattle.client_model.specs.Fitting.{AreIfaces}
use Rattle.iface_core.specs.Inputs.{turn_of}
use Rattle.iface_core.specs.Outcomes.{asked_in}
use Rattle.client_core.specs.Running.{IsRunning}
use Rattle.client_core.specs.Stepping.{GoAll}
use Rattle.client_core.proofs.Joined.{joined_on, in_place, leads_in_place, looks_in_place, placed, turned_steps, untouched_in_place, turned_jobs}
use Rattle.client_core.proofs.clients.step.Goals as goal

pub turn_all-requires-clause-running : goal.turn_all-requires-clause-running
turn_all-requires-clause-running c =
    subst (IsRunning c.deref_mut.result.now) (sym c.deref_mut-2.ensures.value)
    (subst (λ (ifaces : List Iface). IsRunning ifaces c.core.inside.kept.value) (sym c.deref_mut.ensures.value) c.core.invariant)

pub invariant_of-core : goal.invariant_of-core
invariant_of-core c =
    subst (λ (ifaces : List Iface). IsRunning ifaces c.turn_all.new.kept)
    (sym
    (placed c.deref.result.now (turn_of c.args.turn) c.core.inside.ifaces c.deref_mut.result.now c.turn_all.new.ifaces (asked_in c.new-outs.result)
    (asked_in c.turn_all.new.outs)
    c.in_ok-turned.ensures.goes c.deref_mut.ensures.value))
    c.in_ok-turned.ensures.running

pub returns-clause-steps : goal.returns-clause-steps
returns-clause-steps c =
    let turn : Turn = turn_of c.args.turn in
    let all : Vec Iface = c.core.inside.ifaces in
    let new : List Iface = c.turn_all.new.ifaces in
    turned_steps c.args.core c.core.inside.own.items turn all.items (with_items all new).items (asked_in c.new-outs.result) (asked_in c.turn_all.new.outs)
    c.core.view_is c.new-outs.ensures
    (subst
    (λ (own : List Mac). GoAll (iface_turned own turn) all.items (with_items all new).items (asked_in c.new-outs.result) (asked_in c.turn_all.new.outs))
    c.deref.ensures.value
    (in_place c.deref.result.now turn all c.deref_mut.result.now new (asked_in c.new-outs.result)
    (asked_in c.turn_all.new.outs) c.in_ok-turned.ensures.goes c.deref_mut.ensures.value))

pub returns-clause-on_interfaces : goal.returns-clause-on_interfaces
returns-clause-on_interfaces c =
    let turn : Turn = turn_of c.args.turn in
    let all : Vec Iface = c.core.inside.ifaces in
    let new : List Iface = c.turn_all.new.ifaces in
    joined_on (iface_turned c.deref.result.now turn) all.items (with_items all new).items (asked_in c.new-outs.result)
    (asked_in c.turn_all.new.outs) c.new-outs.ensures
    (in_place c.deref.result.now turn all c.deref_mut.result.now new (asked_in c.new-outs.result)
    (asked_in c.turn_all.new.outs) c.in_ok-turned.ensures.goes c.deref_mut.ensures.value)
    (subst AreIfaces
    (sym
    (placed c.deref.result.now turn all c.deref_mut.result.now new (asked_in c.new-outs.result)
    (asked_in c.turn_all.new.outs) c.in_ok-turned.ensures.goes c.deref_mut.ensures.value))
    c.in_ok-turned.ensures.running.fit)

pub returns-clause-untouched : goal.returns-clause-untouched
returns-clause-untouched c =
    let turn : Turn = turn_of c.args.turn in
    untouched_in_place c.args.core c.deref.result.now turn c.in_ok-turned.turned.touched c.core.inside.ifaces c.deref_mut.result.now c.turn_all.new.ifaces
    (asked_in c.new-outs.result) (asked_in c.turn_all.new.outs) (ap (λ (client : Client). client.ifaces) c.core.view_is)
    c.in_ok-turned.ensures.goes c.deref_mut.ensures.value c.in_ok-turned.ensures.untouched

pub returns-clause-leads : goal.returns-clause-leads
returns-clause-leads c =
    let turn : Turn = turn_of c.args.turn in
    leads_in_place c.args.core c.deref.result.now turn c.in_ok-turned.turned.rows c.core.inside.ifaces c.deref_mut.result.now c.turn_all.new.ifaces
    (asked_in c.new-outs.result) (asked_in c.turn_all.new.outs) (ap (λ (client : Client). client.ifaces) c.core.view_is)
    c.in_ok-turned.ensures.goes c.deref_mut.ensures.value c.in_ok-turned.ensures.leads

pub returns-clause-looks : goal.returns-clause-looks
returns-clause-looks c =
    looks_in_place c.args.core (turn_of c.args.turn) c.core.inside.ifaces c.deref_mut.result.now c.in_ok-turned.turned.turns c.in_ok-turned.turned.looks
    (ap (λ (client : Client). client.ifaces) c.core.view_is) c.deref_mut.ensures.value c.in_ok-turned.ensures.looks c.in_ok-turned.ensures.turns

pub returns-clause-jobs : goal.returns-clause-jobs
returns-clause-jobs c =
    let turn : Turn = turn_of c.args.turn in
    let all : Vec Iface = c.core.inside.ifaces in
    let before : List Job = map job_of c.new-jobs.result.items in
    let made : List Job = map job_of c.turn_all.new.jobs.items in
    turned_jobs c.args.core c.core.inside.own.items turn all.items made before c.core.view_is (ap (map job_of) c.new-jobs.ensures.items)
    (subst (λ (own : List Mac). made ≡ before ++ jobs_along [] all.items (map (iface_turned own turn) all.items)) c.deref.ensures.value
    (subst (λ (ifaces : List Iface). made ≡ before ++ jobs_along [] ifaces (map (iface_turned c.deref.result.now turn) ifaces)) c.deref_mut.ensures.value
    c.in_ok-turned.ensures.jobs))
