use Rattle.v6_retrans.proofs.TimesLaws.{counts, follows}
use Rattle.v6_retrans.proofs.laws.times_follow.Goals as goal

pub returns-clause-times : goal.returns-clause-times
returns-clause-times c = follows

pub returns-clause-counted : goal.returns-clause-counted
returns-clause-counted c = counts
