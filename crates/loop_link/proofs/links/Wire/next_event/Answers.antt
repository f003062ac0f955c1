use Rattle.loop_link.proofs.WaitSteps.{brings_if, piece_brings}
use Rattle.loop_link.proofs.WaitEnds.{due_by_kept}
use Rattle.loop_link.proofs.links.Wire.next_event.Goals as goal

pub returns-in-Some-clause-brings : goal.returns-in-Some-clause-brings
returns-in-Some-clause-brings g c =
    brings_if _ _ _ _ _ _ (λ due. due_by_kept g.W.Watch.ended _ _ _ _ _ _ c.pieces.invariant.watch c.wait_end-end.ensures due)
    (piece_brings _ _ _ _ _ _ _ _ _ _ _ c.pieces.invariant.peer c.pieces.auto.buf c.in-Some.is c.pieces.invariant.quiet c.in_ok-event.ensures.brings)
