use Rattle.v6_retrans.proofs.TimesLaws.{bounds}
use Rattle.v6_retrans.proofs.laws.times_are_bounded.Goals as goal

pub returns : goal.returns
returns c = bounds
