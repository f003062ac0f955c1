use Rattle.daemon.proofs.AskedAlike.{saves_alike, removes_alike, clears_alike}
use Rattle.daemon.proofs.laws.files_are_kept_by_the_same_calls.Goals as goal

pub returns-clause-saving : goal.returns-clause-saving
returns-clause-saving c = saves_alike

pub returns-clause-removing : goal.returns-clause-removing
returns-clause-removing c = removes_alike

pub returns-clause-clearing : goal.returns-clause-clearing
returns-clause-clearing c = clears_alike
