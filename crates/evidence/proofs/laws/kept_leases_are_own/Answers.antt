use Rattle.evidence.proofs.KeptOwnProofs.{kept_are_own}
use Rattle.evidence.proofs.laws.kept_leases_are_own.Goals as goal

pub returns : goal.returns
returns c = kept_are_own
