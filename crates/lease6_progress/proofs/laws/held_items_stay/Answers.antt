use Rattle.lease6_progress.proofs.Holding.{holds_from_then_on}
use Rattle.lease6_progress.proofs.Retaining.{stays_held}
use Rattle.lease6_progress.proofs.laws.held_items_stay.Goals as goal

pub returns : goal.returns
returns c = record { stays = stays_held; from_then_on = holds_from_then_on }
