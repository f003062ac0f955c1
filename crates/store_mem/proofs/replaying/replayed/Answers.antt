use Rattle.std.proofs.Common.{sym, subst}
use Rattle.store_mem.specs.StoreRecord.{UndoesNamed}
use Rattle.store_mem.specs.Replays.{Mirrors}
use Rattle.store_mem.proofs.CrashSteps.{told_more, step_named}
use Rattle.store_mem.proofs.replaying.replayed.Goals as goal

pub loop-entry-preserved : goal.loop-entry-preserved
loop-entry-preserved c =
    let more = told_more c.args.first.now c.args.calls.now c.loop-entry.entry-index c.entry-item.result c.loop-entry-test.true c.entry-item.is in (
      subst (λ t. Mirrors c.step.new.self t) (sym more) (c.in-Ok.ensures _ c.loop-entry.invariant.0),
      subst UndoesNamed (sym more) (step_named _ c.entry-item.result c.entry_is_named.ensures c.loop-entry.invariant.1),
    )
