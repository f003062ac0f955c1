use Rattle.lease6_evidence.proofs.KeptProofs6.{needs_rebind}
use Rattle.lease6_evidence.proofs.laws.kept_items_are_rebound.Goals as goal

pub returns : goal.returns
returns c = needs_rebind
