use Rattle.std.proofs.Common.{◌≡◌, List, [], ◌∷◌, ◌++◌, sym, ap, subst, ◌∙◌, append_assoc, map}
use Rattle.std.specs.List.{AllByRecursion}
use Rattle.std.proofs.lemmas.List.{map-append}
use Rattle.settings.specs.declared.interfaces.Managed.{Managed}
use Rattle.settings.specs.Fitting.{AreManaged, FitsManaged}
use Rattle.audit_words.specs.EvidenceWords.Inputs.{Site}
use Rattle.audit_seats.specs.AuditModel.Showing.{site_by}
use Rattle.audit_words.specs.Shown.{site_shown}
use Rattle.audit_seats.proofs.LoopLaws.{all_gone, all_last, map_with}
use Rattle.audit_sites.specs.Reads.{reads_of}
use Rattle.audit_sites.proofs.sites.seats_with.Goals as goal

pub loop-m-init : goal.loop-m-init
loop-m-init c = record {
  whole = c.into_iter-m-iterator.ensures.into_iter_gives.0;
  sites = λ all is. ap (map site_shown) c.new-seats.ensures.items;
}

pub seat_of-requires : goal.seat_of-requires
seat_of-requires c =
    all_last FitsManaged c.loop-m.yielded c.next.new.self.rest.items c.in-Some.m
    (subst AreManaged (sym (ap (λ (more : List Managed). c.loop-m.yielded ++ more) (sym c.in-Some.ensures.steps.0) ∙ c.loop-m.invariant.whole))
    c.requires)

pub loop-m-preserved : goal.loop-m-preserved
loop-m-preserved c =
    let at = c.loop-m in
    let m = c.in-Some.m in
    let rest = c.next.new.self.rest.items in
    record {
      whole = append_assoc at.yielded (m ∷ []) rest
          ∙ ap (λ (more : List Managed). at.yielded ++ more) (sym c.in-Some.ensures.steps.0) ∙ at.invariant.whole;
      sites = λ all is.
          map_with site_shown at.seats.items c.push.new.self.items c.in_ok-next.next c.in_ok-push.ensures.items
          ∙ ap (λ (sites : List Site). sites ++ site_shown c.in_ok-next.next ∷ []) (at.invariant.sites all is)
          ∙ ap (λ (site : Site). map (site_by all c.args.own.now c.args.up (reads_of c.args.reads.now)) at.yielded ++ site ∷ [])
          (c.in_ok-next.ensures all is)
          ∙ sym (map-append (site_by all c.args.own.now c.args.up (reads_of c.args.reads.now)) at.yielded (m ∷ []));
    }

pub returns : goal.returns
returns c = λ all is.
    let at = c.loop-m in
    at.invariant.sites all is
    ∙ ap (map (site_by all c.args.own.now c.args.up (reads_of c.args.reads.now)))
    (all_gone at.yielded at.m-iterator.rest.items c.args.managed.items at.m-iterator.rest.len at.invariant.whole at.m-iterator.rest.ok.0
    c.in-None.ensures.steps.0)
