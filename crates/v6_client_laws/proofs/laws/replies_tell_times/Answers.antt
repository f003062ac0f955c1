use Rattle.v6_client_laws.proofs.TakenProofs.{items_are_taken}
use Rattle.v6_client_laws.proofs.TimeProofs.{leases_are_granted, times_are_told}
use Rattle.v6_client_laws.proofs.laws.replies_tell_times.Goals as goal

pub returns-clause-taken : goal.returns-clause-taken
returns-clause-taken c = items_are_taken

pub returns-clause-times : goal.returns-clause-times
returns-clause-times c = times_are_told

pub returns-clause-leases : goal.returns-clause-leases
returns-clause-leases c = leases_are_granted
