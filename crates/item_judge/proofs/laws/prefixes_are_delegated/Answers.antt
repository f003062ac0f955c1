use Rattle.item_judge.proofs.Giving.{prefixes_delegated}
use Rattle.item_judge.proofs.laws.prefixes_are_delegated.Goals as goal

pub returns : goal.returns
returns c = prefixes_delegated
