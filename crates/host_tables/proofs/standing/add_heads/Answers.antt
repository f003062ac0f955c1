use Rattle.std.proofs.Common.{List, ◌||◌, ◌∙◌, ap, arith}
use Rattle.std.proofs.lemmas.List.{take_all}
use Rattle.world.specs.declared.rows.HostRow.{HostRow}
use Rattle.world.specs.RowOrder.{has_row}
use Rattle.host_tables.specs.Bringings.{rows_in, stands_for}
use Rattle.host_tables.proofs.Counting.{more_steps}
use Rattle.host_tables.proofs.RowByRow.{heads_more}
use Rattle.host_tables.proofs.standing.add_heads.Goals as goal

pub loop-row-preserved : goal.loop-row-preserved
loop-row-preserved g c =
    let i = c.loop-row.invariant in let head = c.add_head.ensures in
    record {
      has = λ q. heads_more c.args.rows.now (rows_in c.args.brought.now) c.loop-row.row-index _ q _ _ _ c.loop-row-test.true (i.has q) (head.has q);
      in_order = head.in_order;
      len = omega (arith, i.len, head.len);
      capacity = omega (arith, i.capacity, head.capacity);
      grows = omega (arith, i.grows, head.grows);
      steps = λ n few short. more_steps _ _ c.loop-row.row-index _ _ (i.steps n few short) (head.steps n few (omega (arith, i.len)));
    }

pub returns-clause-adds : goal.returns-clause-adds
returns-clause-adds g c = record {
  has = λ q. c.loop-row.invariant.has q
      ∙ ap (λ (rows : List HostRow). has_row c.args.heads.now.items q || stands_for rows (rows_in c.args.brought.now) q)
      (take_all c.loop-row.row-index c.args.rows.now c.loop-row-test.false);
  in_order = c.loop-row.invariant.in_order;
}
