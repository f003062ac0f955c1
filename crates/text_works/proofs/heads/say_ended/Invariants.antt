use Rattle.std.proofs.Common.{length}
use Rattle.text_works.proofs.HeadLines.{Prints_so_far}
use Rattle.text_works.proofs.heads.say_ended.Given as goal

abbrev pub invariant-lines : goal.invariant-lines
invariant-lines l = Prints_so_far l.fn.text.items l.text.items l.fn.conf l.rest

abbrev pub decreases-lines : goal.decreases-lines
decreases-lines l = length l.rest
