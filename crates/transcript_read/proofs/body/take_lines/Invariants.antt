use Rattle.std.proofs.Common.{length}
use Rattle.transcript_read.proofs.LoopLaws.{GoesOn}
use Rattle.transcript_read.proofs.body.take_lines.Given as goal

abbrev pub invariant-lines : goal.invariant-lines
invariant-lines g l = GoesOn g.F.Follower.Tells g.F.Follower.after l.fn.start l.text l.rest l.line l.state

abbrev pub decreases-lines : goal.decreases-lines
decreases-lines g l = length l.rest
