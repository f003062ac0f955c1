use Rattle.std.proofs.Common.{arith}
use Rattle.v4_options.proofs.WordSteps.{no_room, filled_up}
use Rattle.v4_options.proofs.instances.word_at.Goals as goal

pub returns-in_default-clause-other : goal.returns-in_default-clause-other
returns-in_default-clause-other c =
    no_room c.pieces.word c.pieces.filled _ _ c.pieces.invariant.2 _ _ c.in-Some.ensures.steps
    (omega (arith, c.pieces.invariant.0, c.pieces.invariant.1)) c.in_default.ensures.none

pub returns-clause-word : goal.returns-clause-word
returns-clause-word c =
    filled_up c.pieces.word c.pieces.filled _ _ c.pieces.invariant.2 c.in-None.ensures.steps.0
    (omega (arith, c.pieces.invariant.0, c.if-filled-lt-WORD_LEN.false))
