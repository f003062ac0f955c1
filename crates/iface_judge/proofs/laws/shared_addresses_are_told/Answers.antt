use Rattle.iface_judge.proofs.SharesTold.{shares_told}
use Rattle.iface_judge.proofs.laws.shared_addresses_are_told.Goals as goal

pub returns : goal.returns
returns c = shares_told
