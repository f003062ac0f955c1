use Rattle.std.proofs.Common.{ℕ, List, Option, None, map, refl, ap, subst}
use Rattle.turn_model.specs.Turns.{end_at, is_past}
use Rattle.client_core.specs.IfaceMachines.Beginnings.{beginning_of}
use Rattle.client_core.specs.IfaceMachines.Outcomes.{asked_in}
use Rattle.world.specs.HookCalls.{job_of}
use Rattle.daemon.specs.Lives.{life_of}
use Rattle.life_files.proofs.KeepingSteps.{all_but}
use Rattle.device_calls.specs.Does.{Does}
use Rattle.turn_model.specs.KeptFiles.{KeptFile}
use Rattle.turn_model.specs.Turns.{acting}
use Rattle.daemon.proofs.TurnSteps.{first_outlook, step_with, opening_made}
use Rattle.device_calls.specs.Fronts.{HasBegun}
use Rattle.turn_model.specs.Opening.{opening_asks}
use Rattle.device_calls.proofs.Begun.{begun_none, begun_all}
use Rattle.life_devices.proofs.Begins.{on_err}
use Rattle.daemon.proofs.BegunTurns.{opening_clears, opening_loads, opening_loaded, opening_goes}
use Rattle.daemon.proofs.openings.open.Goals as goal

pub act-requires-clause-kept : goal.act-requires-clause-kept
act-requires-clause-kept g c = all_but c.in_ok-opened.opened.core.ifaces c.new.result

pub act-requires-clause-known : goal.act-requires-clause-known
act-requires-clause-known g c = (None, refl)

pub returns-clause-made : goal.returns-clause-made
returns-clause-made g c =
    opening_made c.args.managed.now c.args.specs.now c.args.begin (map beginning_of c.in_ok-found.found.beginnings.items) c.in_ok-found.found.files.items
    (life_of c.in_ok-life.life) c.in_ok-supervisor_new.field-0
    c.in_ok-opened.opened.core (asked_in c.in_ok-opened.opened.outs) (map job_of c.in_ok-opened.opened.jobs.items) c.cut.result c.until.result
    _ _ _ _ _ _ _ _
    c.in_ok-opened.ensures.steps c.in_ok-opened.ensures.jobs c.cut.ensures.value c.in_ok-supervisor_new.ensures
    c.in_ok-say.ensures
    (record {
      one = g.W.Outside.seen c.clear.new.outside;
      t_one = c.clear.new.text.items;
      clears = c.in_ok-clear.ensures.does;
      loads = c.in_ok-found.ensures.loads;
    })
    (subst
    (λ (files : List KeptFile). Does
    (acting c.args.managed.now (first_outlook files c.in_ok-supervisor_new.field-0)
    (step_with c.in_ok-opened.opened.core (asked_in c.in_ok-opened.opened.outs).sends (map job_of c.in_ok-opened.opened.jobs.items)) c.cut.result
    None)
    (life_of c.in_ok-life.life) (g.W.Outside.seen c.load_all.new.outside) (g.W.Outside.seen c.act.new.outside) c.load_all.new.text.items c.act.new.text.items)
    c.new.ensures
    (c.in_ok-life.ensures.does None refl))
    c.in_ok-say-2.ensures c.until.ensures

pub returns-clause-going : goal.returns-clause-going
returns-clause-going g c = ap (λ (stop : Option ℕ). is_past (end_at stop) c.in_ok-life.life.moment) c.in_ok-life.ensures.stop

pub returns-in_err-say-clause-begun : goal.returns-in_err-say-clause-begun
returns-in_err-say-clause-begun g c =
    on_err c.from_residual.result (begun_none (opening_asks c.args.managed.now c.args.specs.now c.args.begin) _ _ refl)

pub returns-in_err-clear-clause-begun : goal.returns-in_err-clear-clause-begun
returns-in_err-clear-clause-begun g c =
    on_err c.from_residual-in_err-clear.result (opening_clears c.args.managed.now c.args.specs.now c.args.begin _ _ c.in_err-clear.ensures.begun)

pub returns-in_err-found-clause-begun : goal.returns-in_err-found-clause-begun
returns-in_err-found-clause-begun g c =
    on_err c.from_residual-in_err-found.result
    (opening_loads c.args.managed.now c.args.specs.now c.args.begin _ _ _ _ _ _ c.in_ok-clear.ensures.does c.in_err-found.ensures.begun)

pub returns-in_err-opened-clause-begun : goal.returns-in_err-opened-clause-begun
returns-in_err-opened-clause-begun g c =
    on_err c.from_residual-in_err-opened.result
    (opening_loaded c.args.managed.now c.args.specs.now c.args.begin
    (map beginning_of c.in_ok-found.found.beginnings.items) c.in_ok-found.found.files.items _ _ _ _
    (record {
      one = g.W.Outside.seen c.clear.new.outside;
      t_one = c.clear.new.text.items;
      clears = c.in_ok-clear.ensures.does;
      loads = c.in_ok-found.ensures.loads;
    }))

pub returns-in_err-supervisor_new-clause-begun : goal.returns-in_err-supervisor_new-clause-begun
returns-in_err-supervisor_new-clause-begun g c =
    on_err c.from_residual-in_err-supervisor_new.result
    (opening_loaded c.args.managed.now c.args.specs.now c.args.begin
    (map beginning_of c.in_ok-found.found.beginnings.items) c.in_ok-found.found.files.items _ _ _ _
    (record {
      one = g.W.Outside.seen c.clear.new.outside;
      t_one = c.clear.new.text.items;
      clears = c.in_ok-clear.ensures.does;
      loads = c.in_ok-found.ensures.loads;
    }))

pub returns-in_err-life-clause-begun : goal.returns-in_err-life-clause-begun
returns-in_err-life-clause-begun g c =
    on_err c.from_residual-in_err-life.result
    (opening_goes c.args.managed.now c.args.specs.now c.args.begin
    (map beginning_of c.in_ok-found.found.beginnings.items) c.in_ok-found.found.files.items c.in_ok-supervisor_new.field-0
    c.in_ok-opened.opened.core (asked_in c.in_ok-opened.opened.outs) (map job_of c.in_ok-opened.opened.jobs.items) c.cut.result
    _ _ _ _ _
    c.in_ok-opened.ensures.steps c.in_ok-opened.ensures.jobs c.cut.ensures.value c.in_ok-supervisor_new.ensures
    (record {
      one = g.W.Outside.seen c.clear.new.outside;
      t_one = c.clear.new.text.items;
      clears = c.in_ok-clear.ensures.does;
      loads = c.in_ok-found.ensures.loads;
    })
    (subst
    (λ (files : List KeptFile). HasBegun
    (acting c.args.managed.now (first_outlook files c.in_ok-supervisor_new.field-0)
    (step_with c.in_ok-opened.opened.core (asked_in c.in_ok-opened.opened.outs).sends (map job_of c.in_ok-opened.opened.jobs.items)) c.cut.result
    None)
    (g.W.Outside.seen c.load_all.new.outside) (g.W.Outside.seen c.act.new.outside)) c.new.ensures (c.in_err-life.ensures.begun None refl)))

pub returns-in_err-say-2-clause-begun : goal.returns-in_err-say-2-clause-begun
returns-in_err-say-2-clause-begun g c =
    on_err c.from_residual-in_err-say-2.result
    (opening_goes c.args.managed.now c.args.specs.now c.args.begin
    (map beginning_of c.in_ok-found.found.beginnings.items) c.in_ok-found.found.files.items c.in_ok-supervisor_new.field-0
    c.in_ok-opened.opened.core (asked_in c.in_ok-opened.opened.outs) (map job_of c.in_ok-opened.opened.jobs.items) c.cut.result
    _ _ _ _ _
    c.in_ok-opened.ensures.steps c.in_ok-opened.ensures.jobs c.cut.ensures.value c.in_ok-supervisor_new.ensures
    (record {
      one = g.W.Outside.seen c.clear.new.outside;
      t_one = c.clear.new.text.items;
      clears = c.in_ok-clear.ensures.does;
      loads = c.in_ok-found.ensures.loads;
    })
    (subst
    (λ (files : List KeptFile). HasBegun
    (acting c.args.managed.now (first_outlook files c.in_ok-supervisor_new.field-0)
    (step_with c.in_ok-opened.opened.core (asked_in c.in_ok-opened.opened.outs).sends (map job_of c.in_ok-opened.opened.jobs.items)) c.cut.result
    None)
    (g.W.Outside.seen c.load_all.new.outside) (g.W.Outside.seen c.act.new.outside)) c.new.ensures
    (begun_all _ (life_of c.in_ok-life.life) _ _ _ _ (c.in_ok-life.ensures.does None refl))))
