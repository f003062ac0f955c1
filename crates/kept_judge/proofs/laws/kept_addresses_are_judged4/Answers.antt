use Rattle.kept_judge.proofs.Judged4.{addresses_judged4}
use Rattle.kept_judge.proofs.laws.kept_addresses_are_judged4.Goals as goal

pub returns : goal.returns
returns c = addresses_judged4
