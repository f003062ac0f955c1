use Rattle.std.proofs.Common.{length, map}
use Rattle.conf_text.specs.Contents.{notice_content}
use Rattle.transcript_read.specs.Heads.{NoticedSoFar}
use Rattle.transcript_read.proofs.head.after_notices.Given as goal

abbrev pub invariant-notices : goal.invariant-notices
invariant-notices l = NoticedSoFar (map notice_content l.fn.notices) (map notice_content l.left) l.text l.rest l.line

abbrev pub decreases-notices : goal.decreases-notices
decreases-notices l = length l.left
