use Rattle.basis_turns.proofs.BasesFound.{found_shown}
use Rattle.basis_turns.proofs.laws.found_bases_are_shown.Goals as goal

pub returns : goal.returns
returns c = found_shown
