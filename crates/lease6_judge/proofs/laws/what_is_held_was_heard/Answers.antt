use Rattle.lease6_judge.proofs.HeardTold.{addresses_were_heard, held_was_heard}
use Rattle.lease6_judge.proofs.laws.what_is_held_was_heard.Goals as goal

pub returns-clause-items : goal.returns-clause-items
returns-clause-items c = held_was_heard

pub returns-clause-addresses : goal.returns-clause-addresses
returns-clause-addresses c = addresses_were_heard
