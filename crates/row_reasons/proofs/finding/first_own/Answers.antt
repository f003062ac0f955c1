use Rattle.std.proofs.Common.{[], Option, sym, ap, ◌∙◌}
use Rattle.std.specs.Option.{is_some}
use Rattle.audit_words.specs.Shown.{site_shown}
use Rattle.transcript_audit.specs.AuditSeats.declared.seats.Watched.{Watched}
use Rattle.transcript_audit.proofs.AuditSeats.LoopLaws.{all_at}
use Rattle.transcript_audit.specs.IfaceJudges.Telling.{Tells}
use Rattle.basis_turns.specs.Turns.{shown_after}
use Rattle.row_reasons.specs.Finding.{own_at}
use Rattle.row_reasons.specs.declared.reason.Reason.{Reason}
use Rattle.row_reasons.proofs.Givings.{given_found, given_gone, given_mapped, given_step}
use Rattle.row_reasons.proofs.finding.first_own.Goals as goal

pub own_at-requires-clause-tells : goal.own_at-requires-clause-tells
own_at-requires-clause-tells c =
    all_at (λ (w : Watched _). Tells w.judge (site_shown w.seat) (shown_after [] c.args.turns.now)) c.args.watched.now c.loop-one.one-index
    c.one-item.result c.requires.tell c.one-item.is c.loop-one-test.true

pub returns-then-is_some : goal.returns-then-is_some
returns-then-is_some c =
    let at = c.loop-one in
    let f = own_at c.args.number c.args.net (shown_after [] c.args.turns.now) in
    let some = ap (λ (o : Option Reason). is_some o) (sym c.in_ok-found.ensures) ∙ sym c.is_some.ensures ∙ c.if-is_some.true in
    c.in_ok-found.ensures
    ∙ sym (given_mapped f (λ (w : Watched _). site_shown w.seat) c.args.watched.now ∙ at.invariant
    ∙ given_found (λ (w : Watched _). f (site_shown w.seat)) c.args.watched.now at.one-index c.one-item.result c.one-item.is c.loop-one-test.true some)

pub loop-one-preserved : goal.loop-one-preserved
loop-one-preserved c =
    let at = c.loop-one in
    let f = own_at c.args.number c.args.net (shown_after [] c.args.turns.now) in
    let none = ap (λ (o : Option Reason). is_some o) (sym c.in_ok-found.ensures) ∙ sym c.is_some.ensures ∙ c.if-is_some.false in
    at.invariant
    ∙ given_step (λ (w : Watched _). f (site_shown w.seat)) c.args.watched.now at.one-index c.one-item.result c.one-item.is c.loop-one-test.true none

pub returns : goal.returns
returns c =
    let at = c.loop-one in
    let f = own_at c.args.number c.args.net (shown_after [] c.args.turns.now) in
    sym (given_mapped f (λ (w : Watched _). site_shown w.seat) c.args.watched.now ∙ at.invariant
    ∙ given_gone (λ (w : Watched _). f (site_shown w.seat)) c.args.watched.now at.one-index c.loop-one-test.false)
