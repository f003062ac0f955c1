use Rattle.std.proofs.Common.{take}
use Rattle.local_judge.specs.Judge.{AreEntered}
use Rattle.local_judge.proofs.judge.entered.Given as goal

abbrev pub invariant-loop-candidate : goal.invariant-loop-candidate
invariant-loop-candidate l = AreEntered l.initial.chosen.items (take l.candidate-index l.candidates) l.chosen.items
