use Rattle.lease_progress.proofs.AgainInstance.{again_life_goes_well}
use Rattle.lease_progress.proofs.Instance.{one_life_goes_well}
use Rattle.lease_progress.proofs.laws.premises_are_met.Goals as goal

pub returns-clause-anew : goal.returns-clause-anew
returns-clause-anew c = one_life_goes_well

pub returns-clause-again : goal.returns-clause-again
returns-clause-again c = again_life_goes_well
