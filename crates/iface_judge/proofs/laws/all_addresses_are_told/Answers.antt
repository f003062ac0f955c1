use Rattle.iface_judge.proofs.Among.{all_told}
use Rattle.iface_judge.proofs.laws.all_addresses_are_told.Goals as goal

pub returns : goal.returns
returns c = all_told
