use Rattle.std.proofs.Common.{◌<◌, ◌^◌, vec_len, List, ◌||◌, ◌∙◌, ap, arith}
use Rattle.std.proofs.lemmas.List.{take_all}
use Rattle.world.specs.declared.rows.HostRow.{HostRow}
use Rattle.world.specs.RowOrder.{has_row}
use Rattle.host_tables.proofs.Counting.{more_steps, no_fewer, one_more}
use Rattle.host_tables.proofs.RowByRow.{added_more}
use Rattle.host_tables.proofs.union.add_all.Goals as goal

pub loop-row-preserved : goal.loop-row-preserved
loop-row-preserved g c =
    let i = c.loop-row.invariant in let put = c.put_in.ensures in
    record {
      has = λ q. added_more c.args.rows.now c.loop-row.row-index _ q _ _ _ c.loop-row-test.true (i.has q) (put.has q);
      in_order = put.ordered;
      len = omega (arith, i.len, one_more _ _ _ put.len);
      capacity = omega (arith, i.capacity, put.capacity);
      grows = omega (arith, i.grows, put.grows);
      steps = λ n few.
          let was : vec_len c.loop-row.all < 2 ^ n = omega (arith, no_fewer _ _ _ put.len, few) in
          more_steps _ n c.loop-row.row-index _ _ (i.steps n was) (put.steps n was);
    }

pub returns-clause-adds : goal.returns-clause-adds
returns-clause-adds g c = record {
  has =
      λ q. c.loop-row.invariant.has q
      ∙ ap (λ (rows : List HostRow). has_row c.args.all.now.items q || has_row rows q)
      (take_all c.loop-row.row-index c.args.rows.now c.loop-row-test.false);
  in_order = c.loop-row.invariant.in_order;
}
