use Rattle.std.proofs.Common.{ℕ, ◌<◌, ◌≤◌, ◌∷◌, sym, subst, ◌∙◌}
use Rattle.audit_words.specs.Shown.{entry_shown, site_shown}
use Rattle.audit_seats.specs.declared.seats.Watched.{Watched}
use Rattle.audit_seats.proofs.LoopLaws.{past_all}
use Rattle.audit_seats.proofs.SeatLaws.{length_on, past_on, sites_on}
use Rattle.audit_seats.proofs.seats.all_turned.Goals as goal

pub loop-place-preserved : goal.loop-place-preserved
loop-place-preserved g c =
    let at = c.loop-place in
    let e = (entry_shown c.args.entry.now) in
    let new = c.turn_at.new.watched.items in
    record {
      len = length_on g.J.Judge.Tells e at.place at.all.items new c.in_ok-turn_at.ensures ∙ at.invariant.len;
      sites = sites_on g.J.Judge.Tells e at.place at.all.items new c.in_ok-turn_at.ensures ∙ at.invariant.sites;
      tell = λ past told.
          past_on g.J.Judge.Tells e at.place at.all.items new c.in_ok-turn_at.ensures past
          (subst (λ (n : ℕ). at.place < n) (sym at.invariant.len) c.loop-place-test.true) (at.invariant.tell past told);
    }

pub returns-clause-tell : goal.returns-clause-tell
returns-clause-tell g c = λ past told.
    let at = c.loop-place in
    past_all (λ (w : Watched _). g.J.Judge.Tells w.judge (site_shown w.seat) ((entry_shown c.args.entry.now) ∷ past))
    (λ (w : Watched _). g.J.Judge.Tells w.judge (site_shown w.seat) past) at.place at.all.items (at.invariant.tell past told)
    (subst (λ (n : ℕ). n ≤ at.place) (sym at.invariant.len) c.loop-place-test.false)
