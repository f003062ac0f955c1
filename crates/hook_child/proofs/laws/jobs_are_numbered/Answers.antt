use Rattle.hook_child.proofs.Numbers.{count_puts, start_once}
use Rattle.hook_child.proofs.laws.jobs_are_numbered.Goals as goal

pub returns-clause-numbers : goal.returns-clause-numbers
returns-clause-numbers c = count_puts

pub returns-clause-once : goal.returns-clause-once
returns-clause-once c = start_once
