use Rattle.std.proofs.Common.{◌∙◌, None, refl, ap}
use Rattle.std.specs.List.{list_any}
use Rattle.probe_table.specs.ByAddress.{is_for}
use Rattle.local_judge.specs.Judge.{chosen_addr, own_choice}
use Rattle.probe_table.proofs.Entering.{none_yet, enters, stays}
use Rattle.local_judge.proofs.judge.entered.Goals as goal
use Rattle.local_judge.proofs.judge.entered.Goals.{then-not-has+in_ok-push, else-not-has}

pub loop-candidate-init : goal.loop-candidate-init
loop-candidate-init c = none_yet chosen_addr own_choice None c.args.chosen.items

pub loop-candidate-preserved : goal.loop-candidate-preserved
loop-candidate-preserved c =
    elim c.if-not-has.branch [
      | then-not-has+in_ok-push w ↦ rw w.chosen-is (enters chosen_addr own_choice None c.args.chosen.items c.loop-candidate.chosen.items
          c.args.candidates.now c.loop-candidate.candidate-index (record { number = 0 }) c.loop-candidate-test.true c.loop-candidate.invariant _ _
          w.in_ok-push.ensures.items refl refl)
      | else-not-has w ↦ rw w.chosen-is (stays chosen_addr own_choice None c.args.chosen.items c.loop-candidate.chosen.items c.args.candidates.now
          c.loop-candidate.candidate-index (record { number = 0 }) c.loop-candidate-test.true c.loop-candidate.invariant _
          (c.has.ensures ∙ ap (list_any (is_for chosen_addr _)) c.deref.ensures.value) w.if-not-has.false)
    ]
