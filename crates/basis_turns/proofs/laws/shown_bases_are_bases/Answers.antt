use Rattle.basis_turns.proofs.BasesFound.{shown_based}
use Rattle.basis_turns.proofs.laws.shown_bases_are_bases.Goals as goal

pub returns : goal.returns
returns c = shown_based
