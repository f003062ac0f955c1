use Rattle.std.proofs.Common.{refl}
use Rattle.loop_link.proofs.WaitSteps.{brings_if, piece_brings}
use Rattle.loop_link.proofs.links.Wire.piece.Goals as goal

pub returns-in-Some-clause-brings : goal.returns-in-Some-clause-brings
returns-in-Some-clause-brings g c =
    brings_if _ _ _ _ _ _ (λ never. absurd never)
    (piece_brings _ _ _ _ _ _ _ _ _ _ _ c.in_ok-moment.ensures.peer refl c.in-Some.is c.in_ok-moment.ensures.quiet c.in_ok-event.ensures.brings)
