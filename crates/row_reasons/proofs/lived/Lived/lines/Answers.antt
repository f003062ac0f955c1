use Rattle.std.proofs.Common.{[], List, ap, ◌∙◌}
use Rattle.std.specs.List.{filter_map}
use Rattle.std.proofs.lemmas.Result.{IfOk-weaker}
use Rattle.world.specs.declared.rows.HostRow.{HostRow}
use Rattle.transcript_audit.specs.AuditSeats.Seats.{sites_of}
use Rattle.basis_turns.specs.Turns.{shown_after}
use Rattle.row_reasons.specs.ReasonLines.{line_at}
use Rattle.row_reasons.proofs.TurnLaws.{some_said}
use Rattle.row_reasons.proofs.lived.Lived.lines.Goals as goal

pub returns : goal.returns
returns c =
    let sites = sites_of c.in_ok-judged.judged.watched.items in
    let past = shown_after [] c.deref-2.result.now in
    IfOk-weaker c.lines_on.result _ _
    (λ lines are living judged holds.
    are
    ∙ ap (λ (rows : List HostRow). filter_map (line_at c.args.life c.in-Some.field-0.number sites past) rows) c.deref-3.ensures.value
    ∙ some_said c.args.self _ c.args.life judged sites past c.in-Some.is holds.last
    (ap (shown_after []) (c.deref-2.ensures.value ∙ c.truncate.ensures.items))
    (λ w opens. c.in_ok-judged.ensures.sites ∙ c.in_ok-seats_of.ensures w opens))
    c.lines_on.ensures
