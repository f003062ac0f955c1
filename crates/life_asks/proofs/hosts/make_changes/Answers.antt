use Rattle.std.proofs.Common.{List, Option, Some, subst, ◌∙◌, take}
use Rattle.world.specs.declared.rows.HostRow.{HostRow}
use Rattle.host_model.specs.HostTurn.{after_changes}
use Rattle.device_calls.specs.Does.{Does}
use Rattle.turn_model.specs.Turns.{changing}
use Rattle.life_asks.specs.Tables.{known_in}
use Rattle.life_asks.proofs.Parts.{changing_more, changing_end}
use Rattle.life_asks.proofs.HostSteps.{known_more, known_then}
use Rattle.life_devices.proofs.Begins.{on_err}
use Rattle.life_asks.proofs.BegunParts.{changing_begun, changing_later}
use Rattle.life_asks.proofs.hosts.make_changes.Goals as goal

pub loop-one-preserved : goal.loop-one-preserved
loop-one-preserved g c =
    let at = c.loop-one in
    record {
      so_far = λ known result new text rest. at.invariant.so_far known result new text
          (changing_more c.args.changes.now at.one-index _ c.in_ok-done.done
          (known_in at.table (after_changes (take at.one-index c.args.changes.now) known)) _ result _ _ new _ _ text c.loop-one-test.true
          c.in_ok-done.ensures.does
          (known_more c.args.changes.now at.one-index _ c.in_ok-done.done at.table c.after-table.result known c.loop-one-test.true c.after-table.ensures) rest);
      begun = λ known new rest. at.invariant.begun known new
          (changing_later c.args.changes.now at.one-index _ c.in_ok-done.done
          (known_in at.table (after_changes (take at.one-index c.args.changes.now) known)) _ _ _ new _ _ c.loop-one-test.true c.in_ok-done.ensures.does
          (known_more c.args.changes.now at.one-index _ c.in_ok-done.done at.table c.after-table.result known c.loop-one-test.true c.after-table.ensures) rest);
      waiting = c.change.ensures.waiting ∙ at.invariant.waiting;
    }

pub returns-clause-does : goal.returns-clause-does
returns-clause-does g c = λ known.
    let at = c.loop-one in
    subst
    (λ (result : Option (List HostRow)). Does (changing c.args.changes.now (Some known)) result (g.W.Outside.seen c.args.outside.now)
    (g.W.Outside.seen at.outside) c.args.text.now.items at.text.items)
    (known_then c.args.changes.now at.one-index at.table known c.loop-one-test.false)
    (at.invariant.so_far known _ _ _ (changing_end c.args.changes.now at.one-index _ _ _ c.loop-one-test.false))

pub returns-in_err-done-clause-begun : goal.returns-in_err-done-clause-begun
returns-in_err-done-clause-begun g c =
    let at = c.loop-one in
    on_err c.from_residual.result
    (λ known. at.invariant.begun known _
    (changing_begun c.args.changes.now at.one-index _
    (known_in at.table (after_changes (take at.one-index c.args.changes.now) known)) _ _ c.loop-one-test.true c.in_err-done.ensures.begun))
