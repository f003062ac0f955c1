use Rattle.lab_laws.proofs.Bounds as bounds
use Rattle.lab_laws.proofs.laws.no_two_are_granted.Goals as goal

pub returns : goal.returns
returns c = bounds.no_two_are_granted
