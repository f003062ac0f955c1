use Rattle.basis_turns.proofs.LeasesFound.{found_shown}
use Rattle.basis_turns.proofs.laws.found_leases_are_shown.Goals as goal

pub returns : goal.returns
returns c = found_shown
