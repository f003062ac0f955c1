use Rattle.std.proofs.Common.{arith}
use Rattle.option_index.proofs.PassSteps.{over_noted}
use Rattle.option_index.proofs.area.note_field.Goals as goal

pub options-preserved : goal.options-preserved
options-preserved c = record {
  within = c.in-Whole.ensures.0;
  told = λ all later known.
      over_noted c.args.areas.now c.args.field c.field_bytes-area.result.now c.field_bytes-area.ensures c.options.at c.in-Whole.len all later
      c.options.places c.note.new.places c.place_at.result c.in-Whole.ensures
      (omega (arith, c.type_inv.area c.options.at)) c.note.array_long c.place_at.ensures c.note.ensures (c.options.invariant.told all later known);
}
