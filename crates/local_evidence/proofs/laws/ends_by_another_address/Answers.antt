use Rattle.local_evidence.proofs.Guards.{ends_by_another}
use Rattle.local_evidence.proofs.laws.ends_by_another_address.Goals as goal

pub returns : goal.returns
returns c = ends_by_another
