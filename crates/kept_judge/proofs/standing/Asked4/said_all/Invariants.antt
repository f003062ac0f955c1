-- The messages that are left lead to the same.
use Rattle.std.proofs.Common.{◌≡◌, drop}
use Rattle.kept_judge.specs.Asking4.{said_all}
use Rattle.kept_judge.proofs.standing.Asked4.said_all.Given as goal

abbrev pub invariant-loop-message : goal.invariant-loop-message
invariant-loop-message l = said_all l.address (drop l.message-index l.messages) l.asked ≡ said_all l.address l.messages l.fn.self
