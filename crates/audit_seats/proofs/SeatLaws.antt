-- A turn of one of the interfaces, in its place.
use Rattle.std.proofs.Common.{◌≡◌, ℕ, ◌+◌, ◌<◌, Bool, true, false, ◌||◌, List, ◌∷◌, length, get_or, map, set, refl, sym, ap, subst, ◌∙◌, add-one}
use Rattle.std.specs.Prelude.{◌==◌}
use Rattle.std.specs.List.{list_any}
use Rattle.std.proofs.lemmas.List.{length-set, set-get_or}
use Rattle.world.specs.declared.wakes.Event.{Event}
use Rattle.audit_words.specs.EvidenceWords.Entries.{Entry}
use Rattle.audit_words.specs.Shown.{offer_shown, site_shown}
use Rattle.audit_words.specs.declared.shown.Offer.{Offer}
use Rattle.audit_seats.specs.Concern.{is_input, is_offered}
use Rattle.audit_seats.specs.Seats.{IsTurnedAt, Telling, sites_of}
use Rattle.audit_seats.specs.declared.seats.Watched.{Watched}
use Rattle.audit_seats.proofs.LoopLaws.{AllPast, map_set, past_set}
use Rattle.audit_seats.proofs.TestLaws.{any_mapped}

module _ {J : Type 0} (Tells : Telling J) (e : Entry) (place : ℕ) (old new : List (Watched J)) (turned : IsTurnedAt Tells e place old new) where
  pub sites_on : sites_of new ≡ sites_of old
  sites_on = ap sites_of turned.is ∙ map_set (λ w. site_shown w.seat) place old turned.one turned.next turned.stood (ap site_shown turned.seat)

  pub length_on : length new ≡ length old
  length_on = ap length turned.is ∙ length-set old place turned.next

  pub past_on : (past : List Entry) → place < length old
      → AllPast (λ w. Tells w.judge (site_shown w.seat) (e ∷ past)) (λ w. Tells w.judge (site_shown w.seat) past) place old
      → AllPast (λ w. Tells w.judge (site_shown w.seat) (e ∷ past)) (λ w. Tells w.judge (site_shown w.seat) past) (place + 1) new
  past_on past lt all =
      subst (λ (ws : List (Watched J)).
      AllPast (λ w. Tells w.judge (site_shown w.seat) (e ∷ past)) (λ w. Tells w.judge (site_shown w.seat) past) (place + 1) ws)
      (sym turned.is)
      (rw add-one
      (past_set (λ w. Tells w.judge (site_shown w.seat) (e ∷ past)) (λ w. Tells w.judge (site_shown w.seat) past) place old turned.one turned.next all
      turned.stood lt (turned.tells past)))

-- one whose judge stays as it is
pub stayed : {J : Type 0} (Tells : Telling J) (e : Entry) (place : ℕ) (ws : List (Watched J)) (one : Watched J) → one ≡ get_or ws place one
    → ((past : List Entry) → Tells one.judge (site_shown one.seat) past → Tells one.judge (site_shown one.seat) (e ∷ past))
    → IsTurnedAt Tells e place ws ws
stayed Tells e place ws one stood tells = record {
  one = one;
  next = one;
  stood = stood;
  is = sym (set-get_or ws place one) ∙ ap (λ (w : Watched _). set ws place w) (sym stood);
  seat = refl;
  tells = tells;
}

pub offered_so : (index : ℕ) (event : Event) (offers : List Offer) (offered : Bool)
    → offered ≡ list_any (λ offer. offer.iface.number == index) offers → is_input index event ≡ false
    → offered ≡ (is_input index event || is_offered index (map offer_shown offers))
offered_so index event offers offered is none =
    is ∙ sym (any_mapped (λ offer. offer.iface == index) offer_shown offers)
    ∙ sym (ap (λ (b : Bool). b || is_offered index (map offer_shown offers)) none)
