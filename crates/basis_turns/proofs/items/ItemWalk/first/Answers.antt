use Rattle.std.proofs.Common.{refl}
use Rattle.basis_turns.proofs.items.ItemWalk.first.Goals as goal

pub returns : goal.returns
returns c = λ held. record { judge = c.in_ok-first.ensures; reply = refl }
