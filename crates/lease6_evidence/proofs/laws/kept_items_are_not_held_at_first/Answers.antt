use Rattle.lease6_evidence.proofs.Beginnings6.{begins_without_items}
use Rattle.lease6_evidence.proofs.laws.kept_items_are_not_held_at_first.Goals as goal

pub returns : goal.returns
returns c = begins_without_items
