use Rattle.static_judge.proofs.Configured.{bases}
use Rattle.static_judge.proofs.laws.static_addresses_have_bases.Goals as goal

pub returns : goal.returns
returns c = bases
