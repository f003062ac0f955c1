use Rattle.option_index.proofs.PassSteps.{knows_view}
use Rattle.option_index.proofs.index.places_of.Goals as goal

pub returns : goal.returns
returns c =
    knows_view c.args.view.now c.reads_file.result c.reads_sname.result c.note_field.new.places c.note_where.new.places c.note_where-2.new.places
    c.reads_file.ensures c.reads_sname.ensures c.note_field.ensures c.note_where.ensures c.note_where-2.ensures
