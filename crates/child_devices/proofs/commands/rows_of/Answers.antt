use Rattle.std.proofs.Common.{sym, ap, length, ◌+◌, ◌∙◌, if◌then◌else◌}
use Rattle.std.proofs.lemmas.Map.Views.{All-insert_key}
use Rattle.net_types.proofs.ListLaws.{split_smaller}
use Rattle.net_types.proofs.ReadsLaws.{split_sound}
use Rattle.world.specs.RowOrder.{row_cmp}
use Rattle.world.specs.Rows.{IsRow}
use Rattle.child_devices.proofs.ListingRows.{one_row}
use Rattle.child_devices.proofs.commands.rows_of.Goals as goal

pub lines-smaller : goal.lines-smaller
lines-smaller c = split_smaller 10 c.lines.rest.now c.in-Some.line.now c.in-Some.others.now (sym c.in-Some.ensures)

pub lines-preserved : goal.lines-preserved
lines-preserved c = record {
  rows = rw c.in-Ok-true.ensures.keys (All-insert_key row_cmp _ IsRow _ c.lines.invariant.rows c.in-Some-row_on.ensures.1);
  ordered = c.insert.ensures.ordered;
  goes_on =
      one_row _ c.lines.rest.now c.in-Some.others.now c.in-Some.line.now _ _ _
      (split_sound 10 c.lines.rest.now c.in-Some.line.now c.in-Some.others.now (sym c.in-Some.ensures)).0
      c.in-Some-row_on.ensures.0 c.in-Ok-true.ensures.keys
      (c.in-Ok-true.ensures.len ∙ ap (λ added. length c.lines.rows.keys + (if added then 1 else 0)) c.in-Ok-true.field-0-test) c.lines.invariant.goes_on;
}
