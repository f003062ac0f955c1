use Rattle.script_model.proofs.SpelledRows.{row_printed, rows_printed}
use Rattle.script_model.proofs.laws.printed_rows_are_spelled.Goals as goal

pub returns-clause-row : goal.returns-clause-row
returns-clause-row c = row_printed

pub returns-clause-lines : goal.returns-clause-lines
returns-clause-lines c = rows_printed
