use Rattle.local_evidence.proofs.Guards.{needs_range}
use Rattle.local_evidence.proofs.laws.needs_its_range.Goals as goal

pub returns : goal.returns
returns c = needs_range
