use Rattle.evidence.proofs.Starts.{opening_starts, plain_opening_starts}
use Rattle.evidence.proofs.laws.openings_want_static_addresses_alone.Goals as goal

pub returns-clause-plain : goal.returns-clause-plain
returns-clause-plain c = plain_opening_starts

pub returns-clause-each : goal.returns-clause-each
returns-clause-each c = opening_starts
