-- By the law of all shapes.
use Rattle.transcript_text.proofs.LineReads.{line_reads}
use Rattle.transcript_text.proofs.laws.lines_are_read.Goals as goal

pub returns : goal.returns
returns c = line_reads
