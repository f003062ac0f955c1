use Rattle.std.proofs.Common.{refl}
use Rattle.row_reasons.proofs.finding.Judged.turned.Goals as goal

pub returns-clause-after : goal.returns-clause-after
returns-clause-after c = λ past after. record { tell = c.in_ok-watched.ensures.tell past after.tell; moment = refl }
