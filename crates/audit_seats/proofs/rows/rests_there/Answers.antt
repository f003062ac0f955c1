use Rattle.std.proofs.Common.{sym, ◌∙◌}
use Rattle.audit_words.specs.Shown.{site_shown}
use Rattle.audit_seats.specs.Tests.{rests_at}
use Rattle.audit_seats.specs.declared.seats.Watched.{Watched}
use Rattle.audit_seats.proofs.LoopLaws.{all_at, any_there, below}
use Rattle.audit_seats.proofs.TestLaws.{any_mapped}
use Rattle.audit_seats.proofs.rows.rests_there.Goals as goal

pub returns-in-Some : goal.returns-in-Some
returns-in-Some g c = λ past now told holds.
    let one = c.in-Some.one.now in
    let test = rests_at g.J.Judge.is_own g.J.Judge.is_shared c.args.index c.args.net past in
    let lookup = c.in-Some.ensures.lookup in
    let lt = below c.args.place _ lookup.0 in
    let tells = all_at (λ (w : Watched _). g.J.Judge.Tells w.judge (site_shown w.seat) past) c.args.watched.now c.args.place one told lookup.1 lt in
    any_mapped test (λ (w : Watched _). (site_shown w.seat)) c.args.watched.now
    ∙ any_there (λ (w : Watched _). test (site_shown w.seat)) c.args.watched.now c.args.place one lookup.1 lt (sym (c.rests.ensures past now tells) ∙ holds)
