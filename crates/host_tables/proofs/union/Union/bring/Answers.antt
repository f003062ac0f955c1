use Rattle.std.proofs.Common.{◌<◌, ◌^◌, vec_len, List, ◌&&◌, ◌||◌, ◌∙◌, ap, arith}
use Rattle.std.specs.Prelude.{◌==◌}
use Rattle.std.proofs.lemmas.List.{take_all}
use Rattle.world.specs.declared.rows.HostRow.{HostRow}
use Rattle.world.specs.RowOrder.{has_row}
use Rattle.host_tables.specs.Bringings.{has_bringing}
use Rattle.host_tables.proofs.Counting.{more_steps, no_fewer, one_more}
use Rattle.host_tables.proofs.RowByRow.{brought_more}
use Rattle.host_tables.proofs.Heads.{bringing_at}
use Rattle.host_tables.proofs.union.Union.bring.Goals as goal

pub loop-row-preserved : goal.loop-row-preserved
loop-row-preserved g c =
    let i = c.loop-row.invariant in let put = c.put_in.ensures in
    record {
      wanted = i.wanted;
      brought = λ q at. brought_more c.args.rows.now c.loop-row.row-index _ q (at == c.args.place) _ _ _ _ c.loop-row-test.true (i.brought q at)
          (put.has (record { row = q; place = at })) (bringing_at q _ at c.args.place);
      each_once = put.ordered;
      len = omega (arith, i.len, one_more _ _ _ put.len);
      capacity = omega (arith, i.capacity, put.capacity);
      grows = omega (arith, i.grows, put.grows);
      steps = λ n few.
          let was : vec_len c.loop-row.self.brought < 2 ^ n = omega (arith, no_fewer _ _ _ put.len, few) in
          more_steps _ n c.loop-row.row-index _ _ (i.steps n was) (put.steps n was);
    }

pub returns-clause-brings : goal.returns-clause-brings
returns-clause-brings g c = record {
  wanted = c.loop-row.invariant.wanted;
  brought = λ q at. c.loop-row.invariant.brought q at
      ∙ ap (λ (rows : List HostRow). has_bringing c.args.self.now.brought.items q at || ((at == c.args.place) && has_row rows q))
      (take_all c.loop-row.row-index c.args.rows.now c.loop-row-test.false);
  each_once = c.loop-row.invariant.each_once;
}
