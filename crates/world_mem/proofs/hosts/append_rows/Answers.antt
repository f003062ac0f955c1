use Rattle.world_mem.proofs.Fronts.{cut_back}
use Rattle.world_mem.proofs.hosts.append_rows.Goals as goal

pub returns-in_default-clause-err : goal.returns-in_default-clause-err
returns-in_default-clause-err c =
    rw (c.truncate.ensures.items, c.in_default.ensures.items, c.len-before.ensures)
    (cut_back _ c.args.rows.now.items _ _ _ c.args.rows.now.ok.0 c.loop-row.invariant.0 c.loop-row.invariant.1)
