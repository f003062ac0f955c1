use Rattle.lab_laws.proofs.Bounds.{stays_bound_in_lab}
use Rattle.lab_laws.proofs.laws.what_is_bound_lasts.Goals as goal

pub returns : goal.returns
returns c = stays_bound_in_lab
