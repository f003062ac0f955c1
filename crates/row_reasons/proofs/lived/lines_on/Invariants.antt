use Rattle.std.proofs.Common.{◌≡◌, [], take}
use Rattle.std.specs.List.{filter_map}
use Rattle.transcript_audit.specs.AuditSeats.Seats.{sites_of}
use Rattle.basis_turns.specs.Turns.{shown_after}
use Rattle.row_reasons.specs.ReasonLines.{line_at}
use Rattle.row_reasons.proofs.lived.lines_on.Given as goal

abbrev pub invariant-loop-row : goal.invariant-loop-row
invariant-loop-row l =
    l.lines.items ≡ filter_map (line_at l.life l.number (sites_of l.judged.watched.items) (shown_after [] l.turns)) (take l.row-index l.rows)
