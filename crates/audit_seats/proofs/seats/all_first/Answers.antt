use Rattle.std.proofs.Common.{◌≡◌, List, [], ◌∷◌, ◌++◌, sym, ap, subst, ◌∙◌, append_assoc, map}
use Rattle.std.proofs.lemmas.List.{map-append}
use Rattle.audit_words.specs.EvidenceWords.Inputs.{Site}
use Rattle.audit_words.specs.Shown.{site_shown}
use Rattle.audit_seats.specs.declared.seats.Watched.{Watched}
use Rattle.audit_seats.specs.Seats.{AllTell, sites_of}
use Rattle.audit_seats.proofs.LoopLaws.{all_gone, all_with, map_with}
use Rattle.audit_seats.proofs.seats.all_first.Goals as goal

pub loop-seat-init : goal.loop-seat-init
loop-seat-init g c = record {
  whole = c.into_iter-seat-iterator.ensures.into_iter_gives.0;
  sites = ap sites_of c.new-all.ensures.items;
  tell = subst (λ (all : List (Watched _)). AllTell g.J.Judge.Tells [] all) (sym c.new-all.ensures.items) tt;
}

pub loop-seat-preserved : goal.loop-seat-preserved
loop-seat-preserved g c =
    let at = c.loop-seat in
    let one = c.in-Some.seat in
    let rest = c.next.new.self.rest.items in
    record {
      whole = append_assoc at.yielded (one ∷ []) rest ∙ ap (λ (more : List _). at.yielded ++ more) (sym c.in-Some.ensures.steps.0) ∙ at.invariant.whole;
      sites = map_with (λ (w : Watched _). site_shown w.seat) at.all.items c.push.new.self.items c.in_ok-next.next c.in_ok-push.ensures.items
          ∙ ap (λ (all : List Site). all ++ site_shown c.in_ok-next.next.seat ∷ []) at.invariant.sites
          ∙ ap (λ (seat : _). map site_shown at.yielded ++ site_shown seat ∷ []) c.in_ok-next.ensures.seat
          ∙ sym (map-append site_shown at.yielded (one ∷ []));
      tell =
          subst (λ (all : List (Watched _)). AllTell g.J.Judge.Tells [] all) (sym c.in_ok-push.ensures.items)
          (all_with _ at.all.items c.in_ok-next.next at.invariant.tell c.in_ok-next.ensures.tells);
    }

pub returns-clause-sites : goal.returns-clause-sites
returns-clause-sites g c =
    let at = c.loop-seat in
    at.invariant.sites
    ∙ ap (map site_shown)
    (all_gone at.yielded at.seat-iterator.rest.items c.args.seats.items at.seat-iterator.rest.len at.invariant.whole at.seat-iterator.rest.ok.0
    c.in-None.ensures.steps.0)

pub returns-clause-tell : goal.returns-clause-tell
returns-clause-tell g c = c.loop-seat.invariant.tell
