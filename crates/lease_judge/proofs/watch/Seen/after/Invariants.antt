use Rattle.std.proofs.Common.{take}
use Rattle.lease_judge.proofs.ShownMessages.{SeenSoFar}
use Rattle.lease_judge.proofs.watch.Seen.after.Given as goal

abbrev pub invariant-loop-message : goal.invariant-loop-message
invariant-loop-message l = SeenSoFar l.fn.at l.fn.self (take l.message-index l.messages) l.seen
