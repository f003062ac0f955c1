use Rattle.local_judge.proofs.ChoicesTold.{choices}
use Rattle.local_judge.proofs.laws.choices_are_told.Goals as goal

pub returns : goal.returns
returns c = choices
