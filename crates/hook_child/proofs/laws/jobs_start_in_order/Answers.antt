use Rattle.hook_child.proofs.Lines.{drop_where_full, few_wait, first_in_first_out}
use Rattle.hook_child.proofs.laws.jobs_start_in_order.Goals as goal

pub returns-clause-order : goal.returns-clause-order
returns-clause-order c = first_in_first_out

pub returns-clause-dropped : goal.returns-clause-dropped
returns-clause-dropped c = drop_where_full

pub returns-clause-room : goal.returns-clause-room
returns-clause-room c = few_wait
