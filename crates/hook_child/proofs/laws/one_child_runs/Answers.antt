use Rattle.hook_child.proofs.Children.{abandon_on_time, one_child, run_on}
use Rattle.hook_child.proofs.laws.one_child_runs.Goals as goal

pub returns-clause-one : goal.returns-clause-one
returns-clause-one c = one_child

pub returns-clause-runs : goal.returns-clause-runs
returns-clause-runs c = run_on

pub returns-clause-abandoned : goal.returns-clause-abandoned
returns-clause-abandoned c = abandon_on_time
