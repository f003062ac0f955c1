use Rattle.v4_message.proofs.ReadMessages.{told, untold}
use Rattle.v4_message.proofs.reading.read4.Goals as goal

pub returns-clause-message : goal.returns-clause-message
returns-clause-message c = told c.args.payload.now c.checked.result c.checked.ensures.accepted c.checked.ensures.read

pub returns-clause-no_message : goal.returns-clause-no_message
returns-clause-no_message c = untold c.args.payload.now c.checked.result c.checked.ensures.refused
