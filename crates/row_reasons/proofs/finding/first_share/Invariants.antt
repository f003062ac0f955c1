-- None is given so far.
use Rattle.std.proofs.Common.{◌≡◌, List, drop}
use Rattle.audit_words.specs.EvidenceWords.Entries.{Entry}
use Rattle.audit_words.specs.EvidenceWords.IfaceLives.{now_in}
use Rattle.audit_words.specs.Shown.{site_shown}
use Rattle.transcript_audit.specs.AuditSeats.Seats.{AllTell}
use Rattle.transcript_audit.specs.IfaceJudges.Telling.{Tells}
use Rattle.row_reasons.specs.Finding.{first_given, share_at}
use Rattle.row_reasons.proofs.finding.first_share.Given as goal

abbrev pub invariant-loop-one : goal.invariant-loop-one
invariant-loop-one l =
    (past : List Entry) → l.moment ≡ now_in past → AllTell Tells past l.watched
    → first_given (λ w. share_at l.number l.net past (site_shown w.seat)) l.watched
    ≡ first_given (λ w. share_at l.number l.net past (site_shown w.seat)) (drop l.one-index l.watched)
