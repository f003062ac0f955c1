use Rattle.loop_link.proofs.WaitSteps.{brings_if, brings_then}
use Rattle.loop_link.proofs.WaitEnds.{due_is_awaited}
use Rattle.loop_link.proofs.links.Wire.wait.Goals as goal

pub returns-clause-brings : goal.returns-clause-brings
returns-clause-brings g c =
    brings_if _ _ _ _ _ _ (λ due. due_is_awaited _ _ _ _ due c.in_ok-at.ensures.later)
    (brings_then _ _ _ _ _ _ _ _ _ c.in_ok-event.ensures.peer c.in_ok-event.ensures.brings c.in_ok-at.ensures.quiet)
