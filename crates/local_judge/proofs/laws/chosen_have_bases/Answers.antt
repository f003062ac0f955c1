use Rattle.local_judge.proofs.Telling.{bases}
use Rattle.local_judge.proofs.laws.chosen_have_bases.Goals as goal

pub returns : goal.returns
returns c = bases
