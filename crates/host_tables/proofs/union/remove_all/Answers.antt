use Rattle.std.proofs.Common.{List, not, ◌&&◌, ◌∙◌, ap, arith}
use Rattle.std.proofs.lemmas.List.{take_all}
use Rattle.world.specs.declared.rows.HostRow.{HostRow}
use Rattle.world.specs.RowOrder.{has_row}
use Rattle.host_tables.proofs.Counting.{more_steps}
use Rattle.host_tables.proofs.RowByRow.{removed_more}
use Rattle.host_tables.proofs.union.remove_all.Goals as goal

pub loop-row-preserved : goal.loop-row-preserved
loop-row-preserved g c =
    let i = c.loop-row.invariant in let took = c.take_out.ensures in
    record {
      has = λ q. removed_more c.args.rows.now c.loop-row.row-index _ q _ _ _ c.loop-row-test.true (i.has q) (took.has q);
      in_order = took.ordered;
      len = omega (arith, i.len, took.len);
      capacity = omega (arith, i.capacity, took.capacity);
      grows = omega (arith, i.grows, took.grows);
      steps = λ n few. more_steps _ n c.loop-row.row-index _ _ (i.steps n few) (took.steps n (omega (arith, i.len)));
    }

pub returns-clause-removes : goal.returns-clause-removes
returns-clause-removes g c = record {
  has =
      λ q. c.loop-row.invariant.has q
      ∙ ap (λ (rows : List HostRow). has_row c.args.all.now.items q && not (has_row rows q))
      (take_all c.loop-row.row-index c.args.rows.now c.loop-row-test.false);
  in_order = c.loop-row.invariant.in_order;
}
