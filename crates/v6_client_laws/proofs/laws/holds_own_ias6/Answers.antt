use Rattle.v6_client_laws.proofs.OwnGrants.{carriers_own, duplicates_own, grants_own, held_own, made_own, messages_own, rebinds_own, releases_own, ticks_own}
use Rattle.v6_client_laws.proofs.StayingRuns.{own_ias_stay}
use Rattle.v6_client_laws.proofs.laws.holds_own_ias6.Goals as goal

pub returns-clause-made : goal.returns-clause-made
returns-clause-made c = made_own

pub returns-clause-grants : goal.returns-clause-grants
returns-clause-grants c = grants_own

pub returns-clause-held : goal.returns-clause-held
returns-clause-held c = held_own

pub returns-clause-ticks : goal.returns-clause-ticks
returns-clause-ticks c = ticks_own

pub returns-clause-messages : goal.returns-clause-messages
returns-clause-messages c = messages_own

pub returns-clause-duplicates : goal.returns-clause-duplicates
returns-clause-duplicates c = duplicates_own

pub returns-clause-carriers : goal.returns-clause-carriers
returns-clause-carriers c = carriers_own

pub returns-clause-releases : goal.returns-clause-releases
returns-clause-releases c = releases_own

pub returns-clause-rebinds : goal.returns-clause-rebinds
returns-clause-rebinds c = rebinds_own

pub returns-clause-runs : goal.returns-clause-runs
returns-clause-runs c = own_ias_stay
