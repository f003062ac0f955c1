use Rattle.evidence.proofs.EndingProofs.{static_needs_carrier, static_waits_for_carrier, static_ends_with_stop, static_is_configured}
use Rattle.evidence.proofs.laws.static_addresses_need_carrier.Goals as goal

pub returns-clause-lost : goal.returns-clause-lost
returns-clause-lost c = static_needs_carrier

pub returns-clause-at_first : goal.returns-clause-at_first
returns-clause-at_first c = static_waits_for_carrier

pub returns-clause-stop : goal.returns-clause-stop
returns-clause-stop c = static_ends_with_stop

pub returns-clause-configured : goal.returns-clause-configured
returns-clause-configured c = static_is_configured
