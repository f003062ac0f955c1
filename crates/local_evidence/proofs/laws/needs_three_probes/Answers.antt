use Rattle.local_evidence.proofs.Counting.{needs_three}
use Rattle.local_evidence.proofs.laws.needs_three_probes.Goals as goal

pub returns : goal.returns
returns c = needs_three
