use Rattle.lease_evidence.proofs.EndingProofs.{newest_counts}
use Rattle.lease_evidence.proofs.laws.the_newest_lease_counts.Goals as goal

pub returns : goal.returns
returns c = newest_counts
