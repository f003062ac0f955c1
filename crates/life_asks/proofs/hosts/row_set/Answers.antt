use Rattle.std.proofs.Common.{sym, ap, ◌∙◌}
use Rattle.world.specs.RowOrder.{with_row}
use Rattle.world.proofs.RowLists.{in_order_more}
use Rattle.life_asks.proofs.hosts.row_set.Goals as goal

pub loop-row-preserved : goal.loop-row-preserved
loop-row-preserved c =
    c.in_ok-insert.ensures.keys ∙ ap (with_row _) c.loop-row.invariant ∙ sym (in_order_more c.args.rows.now c.loop-row.row-index _ c.loop-row-test.true)
