use Rattle.lease6_evidence.proofs.WantProofs.{held_items_are_asked}
use Rattle.lease6_evidence.proofs.laws.held_items_are_asked_for.Goals as goal

pub returns : goal.returns
returns c = held_items_are_asked
