use Rattle.v6_client_laws.proofs.DueProofs.{rests_before, rests_elsewhere, wakes_in_time}
use Rattle.v6_client_laws.proofs.laws.wakes_in_time6.Goals as goal

pub returns-clause-first : goal.returns-clause-first
returns-clause-first c = wakes_in_time

pub returns-clause-elsewhere : goal.returns-clause-elsewhere
returns-clause-elsewhere c = rests_elsewhere

pub returns-clause-before : goal.returns-clause-before
returns-clause-before c = rests_before
