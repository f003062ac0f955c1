use Rattle.std.proofs.Common.{Option, sym, ap, ◌∙◌}
use Rattle.std.specs.Option.{is_some}
use Rattle.audit_words.specs.Shown.{site_shown}
use Rattle.transcript_audit.specs.AuditSeats.declared.seats.Watched.{Watched}
use Rattle.transcript_audit.proofs.AuditSeats.LoopLaws.{all_at}
use Rattle.transcript_audit.specs.IfaceJudges.Telling.{Tells}
use Rattle.row_reasons.specs.Finding.{share_at}
use Rattle.row_reasons.specs.declared.reason.Reason.{Reason}
use Rattle.row_reasons.proofs.Givings.{given_found, given_gone, given_mapped, given_step}
use Rattle.row_reasons.proofs.finding.first_share.Goals as goal

pub returns-then-is_some : goal.returns-then-is_some
returns-then-is_some c = λ past last told.
    let at = c.loop-one in
    let f = share_at c.args.number c.args.net past in
    let tells = all_at (λ (w : Watched _). Tells w.judge (site_shown w.seat) past) c.args.watched.now at.one-index c.one-item.result told c.one-item.is
    c.loop-one-test.true in
    let is = c.share_at-found.ensures past last tells in
    let some = ap (λ (o : Option Reason). is_some o) (sym is) ∙ sym c.is_some.ensures ∙ c.if-is_some.true in
    is
    ∙ sym (given_mapped f (λ (w : Watched _). site_shown w.seat) c.args.watched.now ∙ at.invariant past last told
    ∙ given_found (λ (w : Watched _). f (site_shown w.seat)) c.args.watched.now at.one-index c.one-item.result c.one-item.is c.loop-one-test.true some)

pub loop-one-preserved : goal.loop-one-preserved
loop-one-preserved c = λ past last told.
    let at = c.loop-one in
    let f = share_at c.args.number c.args.net past in
    let tells = all_at (λ (w : Watched _). Tells w.judge (site_shown w.seat) past) c.args.watched.now at.one-index c.one-item.result told c.one-item.is
    c.loop-one-test.true in
    let is = c.share_at-found.ensures past last tells in
    let none = ap (λ (o : Option Reason). is_some o) (sym is) ∙ sym c.is_some.ensures ∙ c.if-is_some.false in
    at.invariant past last told
    ∙ given_step (λ (w : Watched _). f (site_shown w.seat)) c.args.watched.now at.one-index c.one-item.result c.one-item.is c.loop-one-test.true none

pub returns : goal.returns
returns c = λ past last told.
    let at = c.loop-one in
    let f = share_at c.args.number c.args.net past in
    sym (given_mapped f (λ (w : Watched _). site_shown w.seat) c.args.watched.now ∙ at.invariant past last told
    ∙ given_gone (λ (w : Watched _). f (site_shown w.seat)) c.args.watched.now at.one-index c.loop-one-test.false)
