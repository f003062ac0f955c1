use Rattle.turn_model.proofs.UnlikeNames.{named_apart}
use Rattle.turn_model.proofs.laws.unlike_interfaces_are_named_apart.Goals as goal

pub returns : goal.returns
returns c = named_apart
