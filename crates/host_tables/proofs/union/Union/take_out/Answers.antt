use Rattle.std.proofs.Common.{List, not, ◌&&◌, ◌∙◌, ap, arith}
use Rattle.std.specs.Prelude.{◌==◌}
use Rattle.std.proofs.lemmas.List.{take_all}
use Rattle.world.specs.declared.rows.HostRow.{HostRow}
use Rattle.world.specs.RowOrder.{has_row}
use Rattle.host_tables.specs.Bringings.{has_bringing}
use Rattle.host_tables.proofs.Counting.{more_steps}
use Rattle.host_tables.proofs.RowByRow.{taken_more}
use Rattle.host_tables.proofs.Heads.{bringing_at}
use Rattle.host_tables.proofs.union.Union.take_out.Goals as goal

pub loop-row-preserved : goal.loop-row-preserved
loop-row-preserved g c =
    let i = c.loop-row.invariant in let took = c.take_out.ensures in
    record {
      wanted = i.wanted;
      brought = λ q at. taken_more c.args.rows.now c.loop-row.row-index _ q (at == c.args.place) _ _ _ _ c.loop-row-test.true (i.brought q at)
          (took.has (record { row = q; place = at })) (bringing_at q _ at c.args.place);
      each_once = took.ordered;
      len = omega (arith, i.len, took.len);
      capacity = omega (arith, i.capacity, took.capacity);
      grows = omega (arith, i.grows, took.grows);
      steps = λ n few. more_steps _ n c.loop-row.row-index _ _ (i.steps n few) (took.steps n (omega (arith, i.len)));
    }

pub returns-clause-takes_out : goal.returns-clause-takes_out
returns-clause-takes_out g c = record {
  wanted = c.loop-row.invariant.wanted;
  brought = λ q at. c.loop-row.invariant.brought q at
      ∙ ap (λ (rows : List HostRow). has_bringing c.args.self.now.brought.items q at && not ((at == c.args.place) && has_row rows q))
      (take_all c.loop-row.row-index c.args.rows.now c.loop-row-test.false);
  each_once = c.loop-row.invariant.each_once;
}
