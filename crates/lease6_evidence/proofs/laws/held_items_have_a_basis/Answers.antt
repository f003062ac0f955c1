use Rattle.lease6_evidence.proofs.FourFrames.{held_items_have_basis}
use Rattle.lease6_evidence.proofs.laws.held_items_have_a_basis.Goals as goal

pub returns : goal.returns
returns c = held_items_have_basis
