use Rattle.lease6_evidence.proofs.KeptProofs6.{needs_message}
use Rattle.lease6_evidence.proofs.laws.kept_items_are_asked_for.Goals as goal

pub returns : goal.returns
returns c = needs_message
