use Rattle.transcript_lines.proofs.LineLaws.{lines_read}
use Rattle.transcript_lines.proofs.laws.a_text_spells_one_line.Goals as goal

pub returns : goal.returns
returns c = lines_read c.lines_are_read.ensures
