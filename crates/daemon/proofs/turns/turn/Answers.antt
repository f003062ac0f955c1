use Rattle.std.proofs.Common.{◌≡◌, refl, sym, subst}
use Rattle.std.specs.Prelude.{map}
use Rattle.world.specs.HookCalls.{job_of}
use Rattle.client_core.specs.IfaceMachines.Inputs.{event_of, bytes_of}
use Rattle.client_core.specs.IfaceMachines.Outcomes.{asked_in}
use Rattle.client_model.specs.IfaceTurns.{Turn}
use Rattle.turn_model.specs.Turns.{input_of, turn_asks}
use Rattle.client_model.specs.Clients.{rows_of}
use Rattle.daemon.specs.Lives.{life_of, IsBelowEnd}
use Rattle.life_asks.specs.Tables.{known_in}
use Rattle.life_asks.proofs.HostSteps.{wanted_in_order}
use Rattle.daemon.proofs.StopMoments.{stop_below}
use Rattle.life_files.proofs.KeepingSteps.{kept_but}
use Rattle.daemon.proofs.TurnSteps.{turn_made}
use Rattle.device_calls.proofs.Begun.{begun_none, begun_all}
use Rattle.life_devices.proofs.Begins.{on_err}
use Rattle.daemon.proofs.BegunTurns.{turn_polls, turn_polled, turn_goes}
use Rattle.daemon.proofs.turns.turn.Goals as goal

pub act-requires-clause-stop : goal.act-requires-clause-stop
act-requires-clause-stop g c =
    subst IsBelowEnd (sym c.stop_moment.ensures)
    (stop_below c.args.life.stop c.args.wake.event c.raised-moment.result c.raised-moment.ensures.below c.requires.orderly.timely.stop)

pub act-requires-clause-kept : goal.act-requires-clause-kept
act-requires-clause-kept g c =
    kept_but c.in_ok-stepped.stepped.touched _ c.args.life.core.ifaces c.in_ok-stepped.stepped.core.ifaces c.args.life.files refl
    c.in_ok-stepped.ensures.untouched c.requires.orderly.kept

pub act-requires-clause-known : goal.act-requires-clause-known
act-requires-clause-known g c = (
  known_in c.args.life.table (rows_of c.args.life.core),
  c.since.ensures (rows_of c.args.life.core) (rows_of c.in_ok-stepped.stepped.core) (wanted_in_order c.args.life.core) c.in_ok-stepped.ensures.leads,
)

pub returns-clause-made : goal.returns-clause-made
returns-clause-made g c =
    let life = life_of c.args.life in
    let turn : Turn =
    record {
      at = c.raised-moment.result;
      salt = c.args.wake.salt;
      unsent = c.args.life.unsent;
      event = event_of c.input.result;
      bytes = bytes_of c.input.result;
    }
    in
    let turn_is : turn ≡ input_of life c.args.wake c.args.bytes.now =
    λ i.
    record {
      at = c.raised-moment.ensures.value i;
      salt = c.args.wake.salt;
      unsent = c.args.life.unsent;
      event = c.input.ensures.event i;
      bytes = c.input.ensures.bytes i;
    }
    in
    turn_made c.args.managed.now life (life_of c.in_ok-life.life) c.args.wake c.args.bytes.now turn c.poll_child.new.hooks c.in_ok-stepped.stepped.core
    (asked_in c.in_ok-stepped.stepped.outs) (map job_of c.in_ok-stepped.stepped.jobs.items)
    c.raised-moment.result c.stop_moment.result c.until.result
    _ _ _ _ _ _ _ _
    turn_is c.in_ok-stepped.ensures.steps c.in_ok-stepped.ensures.jobs c.raised-moment.ensures.value c.stop_moment.ensures c.in_ok-life.ensures.moment
    c.in_ok-say_turn.ensures c.in_ok-poll_child.ensures.does (c.in_ok-life.ensures.does (known_in c.args.life.table (rows_of c.args.life.core))
    (c.since.ensures (rows_of c.args.life.core) (rows_of c.in_ok-stepped.stepped.core) (wanted_in_order c.args.life.core) c.in_ok-stepped.ensures.leads))
    c.in_ok-say.ensures c.until.ensures

pub returns-in_err-say_turn-clause-begun : goal.returns-in_err-say_turn-clause-begun
returns-in_err-say_turn-clause-begun g c =
    on_err c.from_residual.result (begun_none (turn_asks c.args.managed.now (life_of c.args.life) c.args.wake c.args.bytes.now) _ _ refl)

pub returns-in_err-poll_child-clause-begun : goal.returns-in_err-poll_child-clause-begun
returns-in_err-poll_child-clause-begun g c =
    on_err c.from_residual-in_err-poll_child.result
    (turn_polls c.args.managed.now
    (life_of c.args.life) c.args.wake c.args.bytes.now c.raised-moment.result c.raised-moment.ensures.value _ _ c.in_err-poll_child.ensures.begun)

pub returns-in_err-stepped-clause-begun : goal.returns-in_err-stepped-clause-begun
returns-in_err-stepped-clause-begun g c =
    on_err c.from_residual-in_err-stepped.result
    (turn_polled c.args.managed.now
    (life_of c.args.life) c.args.wake c.args.bytes.now c.raised-moment.result c.raised-moment.ensures.value c.poll_child.new.hooks _ _ _ _
    c.in_ok-poll_child.ensures.does)

pub returns-in_err-life-clause-begun : goal.returns-in_err-life-clause-begun
returns-in_err-life-clause-begun g c =
    let life = life_of c.args.life in
    let turn : Turn =
    record {
      at = c.raised-moment.result;
      salt = c.args.wake.salt;
      unsent = c.args.life.unsent;
      event = event_of c.input.result;
      bytes = bytes_of c.input.result;
    }
    in
    let turn_is : turn ≡ input_of life c.args.wake c.args.bytes.now =
    λ i.
    record {
      at = c.raised-moment.ensures.value i;
      salt = c.args.wake.salt;
      unsent = c.args.life.unsent;
      event = c.input.ensures.event i;
      bytes = c.input.ensures.bytes i;
    }
    in
    on_err c.from_residual-in_err-life.result
    (turn_goes c.args.managed.now
    (life_of c.args.life) c.args.wake c.args.bytes.now c.raised-moment.result c.raised-moment.ensures.value turn c.poll_child.new.hooks
    c.in_ok-stepped.stepped.core
    (asked_in c.in_ok-stepped.stepped.outs) (map job_of c.in_ok-stepped.stepped.jobs.items) c.stop_moment.result _ _ _ _ _
    turn_is c.in_ok-stepped.ensures.steps c.in_ok-stepped.ensures.jobs c.stop_moment.ensures c.in_ok-poll_child.ensures.does
    (c.in_err-life.ensures.begun (known_in c.args.life.table (rows_of c.args.life.core))
    (c.since.ensures (rows_of c.args.life.core) (rows_of c.in_ok-stepped.stepped.core) (wanted_in_order c.args.life.core) c.in_ok-stepped.ensures.leads)))

pub returns-in_err-say-clause-begun : goal.returns-in_err-say-clause-begun
returns-in_err-say-clause-begun g c =
    let life = life_of c.args.life in
    let turn : Turn =
    record {
      at = c.raised-moment.result;
      salt = c.args.wake.salt;
      unsent = c.args.life.unsent;
      event = event_of c.input.result;
      bytes = bytes_of c.input.result;
    }
    in
    let turn_is : turn ≡ input_of life c.args.wake c.args.bytes.now =
    λ i.
    record {
      at = c.raised-moment.ensures.value i;
      salt = c.args.wake.salt;
      unsent = c.args.life.unsent;
      event = c.input.ensures.event i;
      bytes = c.input.ensures.bytes i;
    }
    in
    on_err c.from_residual-in_err-say.result
    (turn_goes c.args.managed.now
    (life_of c.args.life) c.args.wake c.args.bytes.now c.raised-moment.result c.raised-moment.ensures.value turn c.poll_child.new.hooks
    c.in_ok-stepped.stepped.core
    (asked_in c.in_ok-stepped.stepped.outs) (map job_of c.in_ok-stepped.stepped.jobs.items) c.stop_moment.result _ _ _ _ _
    turn_is c.in_ok-stepped.ensures.steps c.in_ok-stepped.ensures.jobs c.stop_moment.ensures c.in_ok-poll_child.ensures.does
    (begun_all _ (life_of c.in_ok-life.life) _ _ _ _ (c.in_ok-life.ensures.does (known_in c.args.life.table (rows_of c.args.life.core))
    (c.since.ensures (rows_of c.args.life.core) (rows_of c.in_ok-stepped.stepped.core) (wanted_in_order c.args.life.core) c.in_ok-stepped.ensures.leads))))
