use Rattle.v6_message.proofs.MessageBack.{is_read, is_one, is_only, is_other}
use Rattle.v6_message.proofs.laws.said_is_read_back.Goals as goal

pub returns-clause-read : goal.returns-clause-read
returns-clause-read c = is_read

pub returns-clause-one : goal.returns-clause-one
returns-clause-one c = is_one

pub returns-clause-only : goal.returns-clause-only
returns-clause-only c = is_only

pub returns-clause-other : goal.returns-clause-other
returns-clause-other c = is_other
