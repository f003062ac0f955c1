use Rattle.conf_laws.proofs.PlannedShares.{planned_are_taken, taken_are_planned}
use Rattle.conf_laws.proofs.laws.shares_are_planned.Goals as goal

pub returns-clause-taken : goal.returns-clause-taken
returns-clause-taken c = taken_are_planned

pub returns-clause-whole : goal.returns-clause-whole
returns-clause-whole c = planned_are_taken
