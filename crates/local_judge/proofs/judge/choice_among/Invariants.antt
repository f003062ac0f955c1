use Rattle.std.proofs.Common.{◌≡◌, drop}
use Rattle.local_judge.specs.Judge.{choice_at}
use Rattle.local_judge.proofs.judge.choice_among.Given as goal

abbrev pub invariant-loop-one : goal.invariant-loop-one
invariant-loop-one l = choice_at (drop l.one-index l.chosen) l.addr ≡ choice_at l.chosen l.addr
