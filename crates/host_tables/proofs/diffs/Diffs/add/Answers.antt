use Rattle.std.proofs.Common.{List, not, ◌||◌, ◌&&◌, ◌∙◌, ap}
use Rattle.world.specs.declared.rows.HostRow.{HostRow}
use Rattle.world.specs.RowOrder.{has_row}
use Rattle.host_tables.proofs.Differing.{sums_on}
use Rattle.host_tables.proofs.diffs.Diffs.add.Goals as goal

pub returns : goal.returns
returns c =
    let gone = c.args.self.now.gone.keys in
    let come = c.args.self.now.come.keys in
    sums_on c.args.self.now
    (record { gone = c.take_each-2.new.set; come = c.put_beyond-2.new.set }) c.args.change.now c.put_beyond.new.set.keys c.take_each.new.set.keys
    (record {
      goes =
          λ q. c.in_ok-put_beyond.ensures.has q
          ∙ ap (λ (rows : List HostRow). has_row gone q || (not (has_row come q) && has_row rows q)) c.deref.ensures.value;
      leaves = λ q. c.take_each.ensures.has q ∙ ap (λ (rows : List HostRow). has_row come q && not (has_row rows q)) c.deref-2.ensures.value;
      comes = λ q. c.in_ok-put_beyond-2.ensures.has q
          ∙ ap
          (λ (rows : List HostRow). has_row c.take_each.new.set.keys q || (not (has_row c.put_beyond.new.set.keys q) && has_row rows q))
          c.deref-3.ensures.value;
      returns =
          λ q. c.take_each-2.ensures.has q ∙ ap (λ (rows : List HostRow). has_row c.put_beyond.new.set.keys q && not (has_row rows q)) c.deref-4.ensures.value;
      gone_ordered = λ s. c.take_each-2.ensures.in_order (c.in_ok-put_beyond.ensures.in_order s);
      come_ordered = λ s. c.in_ok-put_beyond-2.ensures.in_order (c.take_each.ensures.in_order s);
    })
