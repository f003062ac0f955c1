use Rattle.origin_laws.proofs.Turns.{kept_leases_are_granted}
use Rattle.origin_laws.proofs.laws.kept_leases6_are_granted.Goals as goal

pub returns : goal.returns
returns c = kept_leases_are_granted
