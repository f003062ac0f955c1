use Rattle.std.proofs.Common.{List, not, ◌||◌, ◌&&◌, ◌∙◌, sym, ap}
use Rattle.std.proofs.lemmas.List.{take_all}
use Rattle.world.specs.declared.rows.HostRow.{HostRow}
use Rattle.world.specs.RowOrder.{has_row}
use Rattle.host_tables.proofs.RowByRow.{put_more, left_out}
use Rattle.host_tables.proofs.diffs.put_beyond.Goals as goal
use Rattle.host_tables.proofs.diffs.put_beyond.Goals.{then-not-contains+in_ok-_is_new, else-not-contains}

pub loop-row-preserved : goal.loop-row-preserved
loop-row-preserved c =
    let i = c.loop-row.invariant in
    elim c.if-not-contains.branch [
      | then-not-contains+in_ok-_is_new w ↦ rw w.set-is (record {
        has = λ q. put_more c.args.others.now.keys c.args.rows.now c.loop-row.row-index _ q _ _ c.loop-row-test.true (i.has q) _
            (sym c.contains.ensures ∙ w.if-not-contains.true) (w.in_ok-_is_new.ensures.updates.0 q);
        in_order = λ _. w.in_ok-_is_new.ensures.ordered;
      })
      | else-not-contains w ↦ rw w.set-is (record {
        has =
            λ q. left_out c.args.others.now.keys c.args.rows.now c.loop-row.row-index _ q _ _ c.loop-row-test.true (i.has q)
            (sym c.contains.ensures ∙ w.if-not-contains.false);
        in_order = i.in_order;
      })
    ]

pub returns-clause-has : goal.returns-clause-has
returns-clause-has c =
    λ q. c.loop-row.invariant.has q
    ∙ ap (λ (rows : List HostRow). has_row c.args.set.now.keys q || (not (has_row c.args.others.now.keys q) && has_row rows q))
    (take_all c.loop-row.row-index c.args.rows.now c.loop-row-test.false)
