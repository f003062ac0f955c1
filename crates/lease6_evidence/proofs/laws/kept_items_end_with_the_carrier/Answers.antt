use Rattle.lease6_evidence.proofs.KeptProofs6.{kept_ends_with_the_carrier}
use Rattle.lease6_evidence.proofs.laws.kept_items_end_with_the_carrier.Goals as goal

pub returns : goal.returns
returns c = kept_ends_with_the_carrier
