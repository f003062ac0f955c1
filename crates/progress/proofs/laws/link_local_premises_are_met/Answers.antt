use Rattle.progress.proofs.Instance.{one_life_goes_well}
use Rattle.progress.proofs.laws.link_local_premises_are_met.Goals as goal

pub returns : goal.returns
returns c = one_life_goes_well
