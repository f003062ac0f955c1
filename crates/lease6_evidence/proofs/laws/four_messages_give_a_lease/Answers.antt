use Rattle.lease6_evidence.proofs.FourHeard.{address_based, prefix_based, turns_hold, turns_lived}
use Rattle.lease6_evidence.proofs.laws.four_messages_give_a_lease.Goals as goal

pub returns-clause-lived : goal.returns-clause-lived
returns-clause-lived c = turns_lived

pub returns-clause-held : goal.returns-clause-held
returns-clause-held c = turns_hold

pub returns-clause-address : goal.returns-clause-address
returns-clause-address c = address_based

pub returns-clause-prefix : goal.returns-clause-prefix
returns-clause-prefix c = prefix_based
