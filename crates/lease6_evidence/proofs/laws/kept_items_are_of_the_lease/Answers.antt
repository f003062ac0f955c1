use Rattle.lease6_evidence.proofs.KeptProofs6.{needs_kept_item}
use Rattle.lease6_evidence.proofs.laws.kept_items_are_of_the_lease.Goals as goal

pub returns : goal.returns
returns c = needs_kept_item
