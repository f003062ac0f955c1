use Rattle.lease_evidence.proofs.KeptNeedsProofs.{kept_ends_by_loss, kept_ends_by_release, kept_ends_by_stop}
use Rattle.lease_evidence.proofs.laws.disturbed_kept_leases_end.Goals as goal

pub returns-clause-carrier : goal.returns-clause-carrier
returns-clause-carrier c = kept_ends_by_loss

pub returns-clause-release : goal.returns-clause-release
returns-clause-release c = kept_ends_by_release

pub returns-clause-stop : goal.returns-clause-stop
returns-clause-stop c = kept_ends_by_stop
