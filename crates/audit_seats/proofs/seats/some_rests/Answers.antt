use Rattle.std.proofs.Common.{◌≡◌, Bool, List, sym, ◌∙◌}
use Rattle.audit_words.specs.EvidenceWords.Entries.{Entry}
use Rattle.audit_words.specs.Shown.{site_shown}
use Rattle.audit_seats.specs.declared.seats.Watched.{Watched}
use Rattle.audit_seats.specs.Tests.{rests_at}
use Rattle.audit_seats.proofs.LoopLaws.{all_at, any_found, any_gone, any_step}
use Rattle.audit_seats.proofs.TestLaws.{any_mapped}
use Rattle.audit_seats.proofs.seats.some_rests.Goals as goal

pub returns-then-rests : goal.returns-then-rests
returns-then-rests g c = λ past now told.
    let at = c.loop-one in
    let one = c.one-item.result in
    let test = rests_at g.J.Judge.is_own g.J.Judge.is_shared c.args.index c.args.net past in
    let tells = all_at (λ (w : Watched _). g.J.Judge.Tells w.judge (site_shown w.seat) past) c.args.watched.now at.one-index one told c.one-item.is
    c.loop-one-test.true in
    sym (any_mapped test (λ (w : Watched _). site_shown w.seat) c.args.watched.now ∙ at.invariant past now told
    ∙ any_found (λ (w : Watched _). test (site_shown w.seat)) c.args.watched.now at.one-index one c.one-item.is c.loop-one-test.true
    (sym (c.rests.ensures past now tells) ∙ c.if-rests.true))

pub loop-one-preserved : goal.loop-one-preserved
loop-one-preserved g c = λ past now told.
    let at = c.loop-one in
    let one = c.one-item.result in
    let test = rests_at g.J.Judge.is_own g.J.Judge.is_shared c.args.index c.args.net past in
    let tells = all_at (λ (w : Watched _). g.J.Judge.Tells w.judge (site_shown w.seat) past) c.args.watched.now at.one-index one told c.one-item.is
    c.loop-one-test.true in
    at.invariant past now told
    ∙ any_step (λ (w : Watched _). test (site_shown w.seat)) c.args.watched.now at.one-index one c.one-item.is c.loop-one-test.true
    (sym (c.rests.ensures past now tells) ∙ c.if-rests.false)

pub returns : goal.returns
returns g c = λ past now told.
    let at = c.loop-one in
    let test = rests_at g.J.Judge.is_own g.J.Judge.is_shared c.args.index c.args.net past in
    sym (any_mapped test (λ (w : Watched _). site_shown w.seat) c.args.watched.now ∙ at.invariant past now told
    ∙ any_gone (λ (w : Watched _). test (site_shown w.seat)) c.args.watched.now at.one-index c.loop-one-test.false)
