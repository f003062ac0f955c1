use Rattle.lease6_evidence.proofs.KeptProofs6.{kept_ends_with_a_stop}
use Rattle.lease6_evidence.proofs.laws.kept_items_end_with_a_stop.Goals as goal

pub returns : goal.returns
returns c = kept_ends_with_a_stop
