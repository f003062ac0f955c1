use Rattle.prefix_share.proofs.Fronts.{one_fault}
use Rattle.prefix_share.proofs.Pairs.{are_apart, plans_obey}
use Rattle.prefix_share.proofs.laws.planned_shares_are_apart.Goals as goal

pub returns-clause-rules : goal.returns-clause-rules
returns-clause-rules c = plans_obey

pub returns-clause-apart : goal.returns-clause-apart
returns-clause-apart c = are_apart

pub returns-clause-fault : goal.returns-clause-fault
returns-clause-fault c = one_fault
