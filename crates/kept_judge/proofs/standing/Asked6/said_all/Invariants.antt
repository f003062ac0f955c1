-- The messages that are left lead to the same.
use Rattle.std.proofs.Common.{◌≡◌, drop}
use Rattle.kept_judge.specs.Asking6.{spoken_all}
use Rattle.kept_judge.proofs.standing.Asked6.said_all.Given as goal

abbrev pub invariant-loop-message : goal.invariant-loop-message
invariant-loop-message l = spoken_all l.at (drop l.message-index l.messages) l.asked ≡ spoken_all l.at l.messages l.fn.self
