use Rattle.iface_judge.proofs.Owning.{own_told}
use Rattle.iface_judge.proofs.laws.own_addresses_are_told.Goals as goal

pub returns : goal.returns
returns c = own_told
