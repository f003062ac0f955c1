use Rattle.std.proofs.Common.{◌≡◌, [], map, take}
use Rattle.audit_words.specs.Shown.{site_shown}
use Rattle.transcript_audit.specs.AuditSeats.Seats.{sites_of}
use Rattle.basis_turns.specs.Turns.{shown_after}
use Rattle.row_reasons.specs.Judging.{IsAfter}
use Rattle.row_reasons.proofs.finding.Judged.after.Given as goal

abbrev pub invariant-turns : goal.invariant-turns
invariant-turns l = record {
  sites : sites_of l.judged.watched.items ≡ map site_shown l.fn.seats.items;
  after : IsAfter (shown_after [] (take l.turn-index l.turns)) l.judged;
}
