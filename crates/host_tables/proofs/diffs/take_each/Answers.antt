use Rattle.std.proofs.Common.{List, not, ◌&&◌, ◌∙◌, ap}
use Rattle.std.proofs.lemmas.List.{take_all}
use Rattle.world.specs.declared.rows.HostRow.{HostRow}
use Rattle.world.specs.RowOrder.{has_row}
use Rattle.host_tables.proofs.RowByRow.{dropped_more}
use Rattle.host_tables.proofs.diffs.take_each.Goals as goal

pub loop-row-preserved : goal.loop-row-preserved
loop-row-preserved c = record {
  has =
      λ q. dropped_more c.args.rows.now c.loop-row.row-index _ q _ _ _ c.loop-row-test.true (c.loop-row.invariant.has q)
      (c.remove-was_there.ensures.updates.0 q);
  in_order = λ _. c.remove-was_there.ensures.ordered;
}

pub returns-clause-has : goal.returns-clause-has
returns-clause-has c =
    λ q. c.loop-row.invariant.has q
    ∙ ap (λ (rows : List HostRow). has_row c.args.set.now.keys q && not (has_row rows q))
    (take_all c.loop-row.row-index c.args.rows.now c.loop-row-test.false)
