use Rattle.v6_client_laws.proofs.Granting.{begins_bring_nothing, brings_nothing, keeps_granted, ticks_bring_nothing}
use Rattle.v6_client_laws.proofs.laws.keeps_granted6.Goals as goal

pub returns-clause-granted : goal.returns-clause-granted
returns-clause-granted c = keeps_granted

pub returns-clause-others : goal.returns-clause-others
returns-clause-others c = brings_nothing

pub returns-clause-ticks : goal.returns-clause-ticks
returns-clause-ticks c = ticks_bring_nothing

pub returns-clause-begins : goal.returns-clause-begins
returns-clause-begins c = begins_bring_nothing
