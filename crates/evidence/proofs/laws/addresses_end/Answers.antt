use Rattle.evidence.proofs.EndingProofs.{ends_with_carrier, ends_with_stop}
use Rattle.evidence.proofs.laws.addresses_end.Goals as goal

pub returns-clause-carrier : goal.returns-clause-carrier
returns-clause-carrier c = ends_with_carrier

pub returns-clause-stop : goal.returns-clause-stop
returns-clause-stop c = ends_with_stop
