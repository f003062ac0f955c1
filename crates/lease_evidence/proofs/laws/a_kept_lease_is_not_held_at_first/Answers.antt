use Rattle.lease_evidence.proofs.Beginnings.{begins_with_kept, begins_with_static_rows, begins_without_lease}
use Rattle.lease_evidence.proofs.laws.a_kept_lease_is_not_held_at_first.Goals as goal

pub returns-clause-none : goal.returns-clause-none
returns-clause-none c = begins_without_lease

pub returns-clause-rows : goal.returns-clause-rows
returns-clause-rows c = begins_with_static_rows

pub returns-clause-kept : goal.returns-clause-kept
returns-clause-kept c = begins_with_kept
