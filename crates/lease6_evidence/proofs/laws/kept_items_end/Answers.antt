use Rattle.lease6_evidence.proofs.KeptProofs6.{needs_live_item}
use Rattle.lease6_evidence.proofs.laws.kept_items_end.Goals as goal

pub returns : goal.returns
returns c = needs_live_item
