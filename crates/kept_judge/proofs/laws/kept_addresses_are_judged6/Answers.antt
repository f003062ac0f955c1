use Rattle.kept_judge.proofs.Judged6.{addresses_judged6}
use Rattle.kept_judge.proofs.laws.kept_addresses_are_judged6.Goals as goal

pub returns : goal.returns
returns c = addresses_judged6
