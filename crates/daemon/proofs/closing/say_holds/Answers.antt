use Rattle.daemon.proofs.Printings.{holds_more}
use Rattle.daemon.proofs.closing.say_holds.Goals as goal

pub loop-row-preserved : goal.loop-row-preserved
loop-row-preserved c = holds_more c.args.rows.now c.loop-row.row-index _ _ _ _ c.loop-row-test.true c.loop-row.invariant c.in_ok-say_hold.ensures
