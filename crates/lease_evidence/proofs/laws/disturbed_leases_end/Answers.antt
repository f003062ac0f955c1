use Rattle.lease_evidence.proofs.EndingProofs.{ends_by_loss, ends_by_release, ends_by_stop}
use Rattle.lease_evidence.proofs.laws.disturbed_leases_end.Goals as goal

pub returns-clause-carrier : goal.returns-clause-carrier
returns-clause-carrier c = ends_by_loss

pub returns-clause-release : goal.returns-clause-release
returns-clause-release c = ends_by_release

pub returns-clause-stop : goal.returns-clause-stop
returns-clause-stop c = ends_by_stop
