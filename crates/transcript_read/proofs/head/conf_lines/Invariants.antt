use Rattle.std.proofs.Common.{length}
use Rattle.transcript_read.specs.Heads.{ConfLinesSoFar}
use Rattle.transcript_read.proofs.head.conf_lines.Given as goal

abbrev pub invariant-lines : goal.invariant-lines
invariant-lines l = ConfLinesSoFar l.text l.conf.items l.rest l.line

abbrev pub decreases-lines : goal.decreases-lines
decreases-lines l = length l.rest
