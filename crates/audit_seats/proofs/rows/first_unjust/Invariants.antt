-- All rows so far rest on the turns.
use Rattle.std.proofs.Common.{◌≡◌, List, not}
use Rattle.std.specs.List.{find}
use Rattle.audit_words.specs.EvidenceWords.Entries.{Entry}
use Rattle.audit_words.specs.EvidenceWords.IfaceLives.{now_in}
use Rattle.audit_seats.specs.Seats.{AllTell, sites_of}
use Rattle.audit_seats.specs.Tests.{row_rests}
use Rattle.audit_seats.proofs.rows.first_unjust.Given as goal

abbrev pub invariant-loop-row : goal.invariant-loop-row
invariant-loop-row g l =
    (past : List Entry) → l.moment ≡ now_in past → AllTell g.J.Judge.Tells past l.watched
    → find (λ row. not (row_rests g.J.Judge.is_own g.J.Judge.is_shared (sites_of l.watched) past row)) l.rows.keys
    ≡ find (λ row. not (row_rests g.J.Judge.is_own g.J.Judge.is_shared (sites_of l.watched) past row)) l.row-iterator
