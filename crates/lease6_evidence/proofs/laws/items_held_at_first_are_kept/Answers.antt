use Rattle.lease6_evidence.proofs.FourFrames.{begins_with_kept_items}
use Rattle.lease6_evidence.proofs.laws.items_held_at_first_are_kept.Goals as goal

pub returns : goal.returns
returns c = begins_with_kept_items
