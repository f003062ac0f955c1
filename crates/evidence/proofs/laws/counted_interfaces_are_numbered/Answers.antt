use Rattle.evidence.proofs.Numbered.{counted}
use Rattle.evidence.proofs.laws.counted_interfaces_are_numbered.Goals as goal

pub returns : goal.returns
returns c = counted
