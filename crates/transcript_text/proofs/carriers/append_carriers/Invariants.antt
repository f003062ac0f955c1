-- The numbers below the index are appended.
use Rattle.transcript_text.proofs.CarrierSteps.{WrittenTo}
use Rattle.transcript_text.proofs.carriers.append_carriers.Given as goal

abbrev pub invariant-loop-index : goal.invariant-loop-index
invariant-loop-index l = WrittenTo l.up l.initial.into.items l.into.items l.some l.index
