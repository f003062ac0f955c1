use Rattle.kept_judge.proofs.Judged6.{items_judged6}
use Rattle.kept_judge.proofs.laws.kept_items_are_judged.Goals as goal

pub returns : goal.returns
returns c = items_judged6
