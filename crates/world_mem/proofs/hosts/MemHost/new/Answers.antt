use Rattle.world_mem.proofs.HostSteps.{put_more, rows_more}
use Rattle.world_mem.proofs.hosts.MemHost.new.Goals as goal

pub loop-row-preserved : goal.loop-row-preserved
loop-row-preserved c = (
  put_more _ c.deref-row-items.result.now c.loop-row.held.keys _ c.loop-row.row-index c.loop-row-test.true c.in-Ok.ensures.keys c.loop-row.invariant.0,
  rows_more _ c.args.rows.items c.deref-row-items.result.now c.loop-row.held.keys c.insert.new.self.keys c.loop-row.row-index c.loop-row-test.true
      c.in-Ok.ensures.keys c.deref-row-items.ensures.value c.requires c.loop-row.invariant.1,
)
