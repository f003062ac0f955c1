use Rattle.lease6_evidence.proofs.KeptProofs6.{needs_origin}
use Rattle.lease6_evidence.proofs.laws.kept_items_need_an_origin.Goals as goal

pub returns : goal.returns
returns c = needs_origin
