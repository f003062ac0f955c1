use Rattle.basis_turns.proofs.LocalsFound.{found_shown}
use Rattle.basis_turns.proofs.laws.found_locals_are_shown.Goals as goal

pub returns : goal.returns
returns c = found_shown
