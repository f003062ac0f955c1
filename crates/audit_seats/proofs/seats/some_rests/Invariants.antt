-- The address rests at none so far.
use Rattle.std.proofs.Common.{◌≡◌, List, drop}
use Rattle.std.specs.List.{list_any}
use Rattle.audit_words.specs.EvidenceWords.Entries.{Entry}
use Rattle.audit_words.specs.EvidenceWords.IfaceLives.{now_in}
use Rattle.audit_words.specs.Shown.{site_shown}
use Rattle.audit_seats.specs.Seats.{AllTell}
use Rattle.audit_seats.specs.Tests.{rests_at}
use Rattle.audit_seats.proofs.seats.some_rests.Given as goal

abbrev pub invariant-loop-one : goal.invariant-loop-one
invariant-loop-one g l =
    (past : List Entry) → l.moment ≡ now_in past → AllTell g.J.Judge.Tells past l.watched
    → list_any (λ w. rests_at g.J.Judge.is_own g.J.Judge.is_shared l.index l.net past (site_shown w.seat)) l.watched
    ≡ list_any (λ w. rests_at g.J.Judge.is_own g.J.Judge.is_shared l.index l.net past (site_shown w.seat)) (drop l.one-index l.watched)
