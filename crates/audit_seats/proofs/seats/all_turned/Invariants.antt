-- Those up to here are after the turn, and the others before it.
use Rattle.std.proofs.Common.{◌≡◌, ◌∷◌, ◌≤◌, List, length}
use Rattle.audit_words.specs.EvidenceWords.Entries.{Entry}
use Rattle.audit_words.specs.Shown.{entry_shown, site_shown}
use Rattle.audit_seats.specs.Seats.{AllTell, sites_of}
use Rattle.audit_seats.proofs.LoopLaws.{AllPast}
use Rattle.audit_seats.proofs.seats.all_turned.Given as goal

abbrev pub invariant-loop-place : goal.invariant-loop-place
invariant-loop-place g l = record {
  len : length l.all.items ≡ l.place-end;
  sites : sites_of l.all.items ≡ sites_of l.fn.watched.items;
  tell : (past : List Entry) → AllTell g.J.Judge.Tells past l.fn.watched.items
      → AllPast (λ w. g.J.Judge.Tells w.judge (site_shown w.seat) (entry_shown l.entry ∷ past))
      (λ w. g.J.Judge.Tells w.judge (site_shown w.seat) past) l.place l.all.items;
}
