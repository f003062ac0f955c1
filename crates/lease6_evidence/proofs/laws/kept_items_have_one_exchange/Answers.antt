use Rattle.lease6_evidence.proofs.KeptProofs6.{needs_one_exchange}
use Rattle.lease6_evidence.proofs.laws.kept_items_have_one_exchange.Goals as goal

pub returns : goal.returns
returns c = needs_one_exchange
