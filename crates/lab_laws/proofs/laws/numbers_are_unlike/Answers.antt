use Rattle.lab_laws.proofs.SaidMessages.{unlike_each}
use Rattle.lab_laws.proofs.laws.numbers_are_unlike.Goals as goal

pub returns : goal.returns
returns c = unlike_each
