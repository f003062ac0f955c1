use Rattle.turn_model.proofs.OwnLeases.{all_begin_with_own}
use Rattle.turn_model.proofs.laws.interfaces_begin_with_their_own_leases.Goals as goal

pub returns : goal.returns
returns c = all_begin_with_own
