use Rattle.basis_turns.proofs.LeasesFound.{shown_based}
use Rattle.basis_turns.proofs.laws.shown_leases_have_bases.Goals as goal

pub returns : goal.returns
returns c = shown_based
