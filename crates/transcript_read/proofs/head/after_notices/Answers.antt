use Rattle.std.proofs.Common.{rules, ◌≡◌, map, bytes_eq, true, ◌∷◌, subst}
use Rattle.conf_text.specs.Contents.{notice_content}
use Rattle.transcript_read.specs.Heads.{NoticedSoFar, notice_words}
use Rattle.transcript_read.proofs.HeadLaws.{noticed_more}
use Rattle.transcript_read.proofs.head.after_notices.Goals as goal

pub notices-preserved : goal.notices-preserved
notices-preserved c =
    let here : map notice_content c.notices.left.now ≡ notice_content c.in-Some.notice.now ∷ map notice_content c.in-Some.others.now = search rules in
    let same : bytes_eq c.in-Some-split_at_byte.words.now (notice_words (notice_content c.in-Some.notice.now)) ≡ true = search rules in
    noticed_more (map notice_content c.args.notices.now) (map notice_content c.in-Some.others.now) (notice_content c.in-Some.notice.now) c.args.text.now
    c.notices.rest.now c.in-Some-split_at_byte.words.now c.in-Some-split_at_byte.after.now c.notices.line
    (subst (λ left. NoticedSoFar (map notice_content c.args.notices.now) left c.args.text.now c.notices.rest.now c.notices.line) here c.notices.invariant)
    c.in-Some-split_at_byte.ensures same
