use Rattle.item_judge.proofs.Giving.{addresses_given}
use Rattle.item_judge.proofs.laws.addresses_are_given.Goals as goal

pub returns : goal.returns
returns c = addresses_given
