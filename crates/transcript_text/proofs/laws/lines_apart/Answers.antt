-- A line is read back from its text.
use Rattle.transcript_text.proofs.LineReads.{apart}
use Rattle.transcript_text.proofs.laws.lines_apart.Goals as goal

pub returns : goal.returns
returns c = apart
