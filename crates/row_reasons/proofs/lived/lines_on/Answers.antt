use Rattle.std.proofs.Common.{[], rules}
use Rattle.transcript_audit.specs.AuditSeats.Seats.{sites_of}
use Rattle.basis_turns.specs.Turns.{shown_after}
use Rattle.row_reasons.specs.ReasonLines.{line_at}
use Rattle.row_reasons.proofs.RowLaws.{line_more}
use Rattle.row_reasons.proofs.lived.lines_on.Goals as goal

pub loop-row-preserved : goal.loop-row-preserved
loop-row-preserved c =
    line_more (line_at c.args.life c.args.number (sites_of c.args.judged.now.watched.items) (shown_after [] c.args.turns.now)) c.args.rows.now
    c.loop-row.row-index _ c.loop-row.lines.items c.push_some.new.lines.items c.in_ok-line.line (search rules) c.loop-row-test.true
    c.loop-row.invariant c.in_ok-line.ensures c.in_ok-push_some.ensures
