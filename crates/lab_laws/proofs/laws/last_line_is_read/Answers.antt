use Rattle.lab_laws.proofs.LastLines.{unlike_is_read}
use Rattle.lab_laws.proofs.laws.last_line_is_read.Goals as goal

pub returns : goal.returns
returns c = unlike_is_read
