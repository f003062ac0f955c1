use Rattle.row_texts.proofs.RowLaws.{row_finds}
use Rattle.row_texts.proofs.SpellingLaws.{one_value}
use Rattle.row_texts.proofs.rows.a_text_spells_one_row.Goals as goal

pub returns : goal.returns
returns c text one other fits fits_other spells spells_other =
    one_value text one other row_finds (spells, fits) (spells_other, fits_other)
