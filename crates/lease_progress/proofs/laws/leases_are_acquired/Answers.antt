use Rattle.lease_progress.proofs.laws.leases_are_acquired.Goals as goal
use Rattle.lease_progress.proofs.Opened as laws

pub returns-clause-acquires : goal.returns-clause-acquires
returns-clause-acquires c = laws.acquires

pub returns-clause-reacquires : goal.returns-clause-reacquires
returns-clause-reacquires c = laws.reacquires
