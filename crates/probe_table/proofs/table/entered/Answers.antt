use Rattle.std.proofs.Common.{◌∙◌, refl, ap}
use Rattle.std.specs.List.{list_any}
use Rattle.probe_table.specs.ByAddress.{is_for}
use Rattle.probe_table.specs.ProbeTimes.{no_probes}
use Rattle.probe_table.specs.Table.{addr_of, own_times}
use Rattle.probe_table.proofs.Entering.{none_yet, enters, stays}
use Rattle.probe_table.proofs.table.entered.Goals as goal
use Rattle.probe_table.proofs.table.entered.Goals.{then-not-has+in_ok-push, else-not-has}

pub loop-target-init : goal.loop-target-init
loop-target-init c = none_yet addr_of own_times no_probes c.args.probings.items

pub loop-target-preserved : goal.loop-target-preserved
loop-target-preserved c =
    elim c.if-not-has.branch [
      | then-not-has+in_ok-push w ↦ rw w.probings-is (enters addr_of own_times no_probes c.args.probings.items c.loop-target.probings.items c.args.targets.now
          c.loop-target.target-index (record { number = 0 }) c.loop-target-test.true c.loop-target.invariant _ _ w.in_ok-push.ensures.items refl w.none.ensures)
      | else-not-has w ↦ rw w.probings-is (stays addr_of own_times no_probes c.args.probings.items c.loop-target.probings.items c.args.targets.now
          c.loop-target.target-index (record { number = 0 }) c.loop-target-test.true c.loop-target.invariant _
          (c.has.ensures ∙ ap (list_any (is_for addr_of _)) c.deref.ensures.value) w.if-not-has.false)
    ]
