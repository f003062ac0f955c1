use Rattle.lease_evidence.proofs.AskingProofs.{needs_frame_here}
use Rattle.lease_evidence.proofs.laws.other_interfaces_give_nothing.Goals as goal

pub returns : goal.returns
returns c = needs_frame_here
