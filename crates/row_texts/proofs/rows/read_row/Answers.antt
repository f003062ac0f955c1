use Rattle.std.proofs.Common.{sym, ap, ◌∙◌}
use Rattle.row_texts.specs.RowReading.{row_at}
use Rattle.row_texts.proofs.RowLaws.{row_finds}
use Rattle.row_texts.proofs.SpellingLaws.{no_value}
use Rattle.row_texts.proofs.rows.read_row.Goals as goal

pub returns-in-Some-clause-found : goal.returns-in-Some-clause-found
returns-in-Some-clause-found c =
    row_finds.sound c.args.text.now c.in-Some.row (ap row_at (sym c.as_bytes.ensures.value) ∙ sym c.row_of.ensures ∙ c.in-Some.is)

pub returns-in-None-clause-bad : goal.returns-in-None-clause-bad
returns-in-None-clause-bad c row fits spells =
    no_value c.args.text.now row row_finds (ap row_at (sym c.as_bytes.ensures.value) ∙ sym c.row_of.ensures ∙ c.in-None.is) (spells, fits)
