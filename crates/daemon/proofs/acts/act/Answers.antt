use Rattle.std.proofs.Common.{List, Option, subst, sym}
use Rattle.std.specs.Prelude.{map}
use Rattle.world.specs.declared.rows.HostRow.{HostRow}
use Rattle.client_core.specs.IfaceMachines.declared.outs.Sending.{Sending}
use Rattle.client_core.specs.IfaceMachines.Outcomes.{sending_of}
use Rattle.client_model.specs.Clients.{rows_of}
use Rattle.device_calls.specs.Does.{Does}
use Rattle.turn_model.specs.Turns.{offering}
use Rattle.daemon.specs.Acts.{outlook_of, step_of}
use Rattle.life_asks.specs.Tables.{known_in, WasKnown, Hosts, BeginsHosts}
use Rattle.daemon.proofs.TurnSteps.{acted}
use Rattle.device_calls.specs.Fronts.{HasBegun}
use Rattle.life_devices.proofs.Begins.{on_err}
use Rattle.daemon.proofs.BegunTurns.{frames_begun, hosts_begun, hooks_begun, files_begun}
use Rattle.daemon.proofs.acts.act.Goals as goal

pub host_turn-requires-clause-known : goal.host_turn-requires-clause-known
host_turn-requires-clause-known g c =
    subst (λ (rows : List HostRow). (known : Option (List HostRow)) × WasKnown c.args.outlook.pending rows known) (sym c.rows.ensures.rows) c.requires.known

pub returns-clause-does : goal.returns-clause-does
returns-clause-does g c = λ known knew.
    acted c.args.managed.now (outlook_of c.args.outlook known) (step_of c.args.step) c.args.outlook.moment c.in_ok-unsent.unsent c.args.outlook.stop
    (known_in c.in_ok-table.table (rows_of c.args.step.core)) c.hook_turn.new.hooks c.in_ok-files.files _ _ _ _
    (record {
      one = g.W.Outside.seen c.offer_all.new.outside;
      two = g.W.Outside.seen c.host_turn.new.outside;
      three = g.W.Outside.seen c.hook_turn.new.outside;
      t_one = c.offer_all.new.text.items;
      t_two = c.host_turn.new.text.items;
      t_three = c.hook_turn.new.text.items;
      offers =
          subst
          (λ (slice : List Sending). Does (offering (map sending_of slice) 0) c.in_ok-unsent.unsent (g.W.Outside.seen c.args.outside.now)
          (g.W.Outside.seen c.offer_all.new.outside) c.args.text.now.items c.offer_all.new.text.items)
          c.deref.ensures.value c.in_ok-unsent.ensures.does;
      hosts =
          subst
          (λ (rows : List HostRow). Hosts c.args.managed.now c.args.outlook.pending rows c.in_ok-table.table (g.W.Outside.seen c.offer_all.new.outside)
          (g.W.Outside.seen c.host_turn.new.outside) c.offer_all.new.text.items c.host_turn.new.text.items)
          c.rows.ensures.rows c.in_ok-table.ensures.does known knew;
      runs = c.in_ok-hook_turn.ensures.does;
      keeps = c.in_ok-files.ensures.does;
    })

pub returns-in_err-unsent-clause-begun : goal.returns-in_err-unsent-clause-begun
returns-in_err-unsent-clause-begun g c =
    on_err c.from_residual.result
    (λ known knew. frames_begun c.args.managed.now (outlook_of c.args.outlook known) (step_of c.args.step) c.args.outlook.moment c.args.outlook.stop _ _
    (subst
    (λ (slice : List Sending). HasBegun (offering (map sending_of slice) 0) (g.W.Outside.seen c.args.outside.now)
    (g.W.Outside.seen c.offer_all.new.outside))
    c.deref.ensures.value c.in_err-unsent.ensures.begun))

pub returns-in_err-table-clause-begun : goal.returns-in_err-table-clause-begun
returns-in_err-table-clause-begun g c =
    on_err c.from_residual-in_err-table.result
    (λ known knew. hosts_begun c.args.managed.now (outlook_of c.args.outlook known)
    (step_of c.args.step) c.args.outlook.moment c.args.outlook.stop c.in_ok-unsent.unsent _ _ _ _ _
    (subst
    (λ (slice : List Sending). Does (offering (map sending_of slice) 0) c.in_ok-unsent.unsent (g.W.Outside.seen c.args.outside.now)
    (g.W.Outside.seen c.offer_all.new.outside) c.args.text.now.items c.offer_all.new.text.items)
    c.deref.ensures.value c.in_ok-unsent.ensures.does)
    (subst
    (λ (rows : List HostRow). BeginsHosts c.args.managed.now c.args.outlook.pending rows (g.W.Outside.seen c.offer_all.new.outside)
    (g.W.Outside.seen c.host_turn.new.outside))
    c.rows.ensures.rows c.in_err-table.ensures.begun known knew))

pub returns-in_err-hook_turn-clause-begun : goal.returns-in_err-hook_turn-clause-begun
returns-in_err-hook_turn-clause-begun g c =
    on_err c.from_residual-in_err-hook_turn.result
    (λ known knew. hooks_begun c.args.managed.now (outlook_of c.args.outlook known)
    (step_of c.args.step) c.args.outlook.moment c.args.outlook.stop c.in_ok-unsent.unsent
    (known_in c.in_ok-table.table (rows_of c.args.step.core)) _ _ _ _ _ _ _
    (subst
    (λ (slice : List Sending). Does (offering (map sending_of slice) 0) c.in_ok-unsent.unsent (g.W.Outside.seen c.args.outside.now)
    (g.W.Outside.seen c.offer_all.new.outside) c.args.text.now.items c.offer_all.new.text.items)
    c.deref.ensures.value c.in_ok-unsent.ensures.does)
    (subst
    (λ (rows : List HostRow). Hosts c.args.managed.now c.args.outlook.pending rows c.in_ok-table.table (g.W.Outside.seen c.offer_all.new.outside)
    (g.W.Outside.seen c.host_turn.new.outside) c.offer_all.new.text.items c.host_turn.new.text.items)
    c.rows.ensures.rows c.in_ok-table.ensures.does known knew)
    c.in_err-hook_turn.ensures.begun)

pub returns-in_err-files-clause-begun : goal.returns-in_err-files-clause-begun
returns-in_err-files-clause-begun g c =
    on_err c.from_residual-in_err-files.result
    (λ known knew. files_begun c.args.managed.now (outlook_of c.args.outlook known)
    (step_of c.args.step) c.args.outlook.moment c.args.outlook.stop c.in_ok-unsent.unsent
    (known_in c.in_ok-table.table (rows_of c.args.step.core)) c.hook_turn.new.hooks _ _ _ _ _ _ _ _ _
    (subst
    (λ (slice : List Sending). Does (offering (map sending_of slice) 0) c.in_ok-unsent.unsent (g.W.Outside.seen c.args.outside.now)
    (g.W.Outside.seen c.offer_all.new.outside) c.args.text.now.items c.offer_all.new.text.items)
    c.deref.ensures.value c.in_ok-unsent.ensures.does)
    (subst
    (λ (rows : List HostRow). Hosts c.args.managed.now c.args.outlook.pending rows c.in_ok-table.table (g.W.Outside.seen c.offer_all.new.outside)
    (g.W.Outside.seen c.host_turn.new.outside) c.offer_all.new.text.items c.host_turn.new.text.items)
    c.rows.ensures.rows c.in_ok-table.ensures.does known knew)
    c.in_ok-hook_turn.ensures.does c.in_err-files.ensures.begun)
