-- A lease that is held has its basis.
use Rattle.std.proofs.Common.{◌≡◌, ℕ, zero, suc, ◌+◌, ◌*◌, ◌||◌, Bool, true, false, List, [], ◌∷◌, Option, Some, None, IfSome, ◌⊎◌, inl, inr, refl, sym, ap, subst, ◌∙◌, nat_lt, eqb, arith, if◌then◌else◌}
use Rattle.std.proofs.lemmas.Bool.Decides.{nat_tests}
use Rattle.std.specs.Option.{is_some}
use Rattle.std.specs.Prelude.{option_map}
use Rattle.machine.proofs.Entries.{since-map}
use Rattle.machine.specs.Moment.{is_due}
use Rattle.machine.specs.Since.{Since}
use Rattle.net_types.specs.declared.address.Ip4.{Ip4}
use Rattle.net_types.specs.declared.address.Net.TheVariants.{V4}
use Rattle.lease_text.specs.declared.lease.TheConstants.{INFINITE_LEASE}
use Rattle.lease_text.specs.declared.lease.Terms4.{Terms4}
use Rattle.lease_text.specs.Leases.{LeaseContent, terms_of}
use Rattle.v4_client.specs.declared.moments.TheConstants.{SECOND}
use Rattle.v4_client.specs.declared.states.Exchange4.{Exchange4}
use Rattle.v4_client.specs.declared.states.State4.{State4}
use Rattle.v4_client.specs.declared.states.State4.TheVariants.{Off, Init, Selecting, Requesting, Rebooting, Checking, Waiting, Bound, Renewing, Rebinding}
use Rattle.v4_client.specs.Answers.{is_unexpired}
use Rattle.v4_client.specs.Clients.{is_held, held_terms, held_of}
use Rattle.v4_client.specs.Sound.{IsKept}
use Rattle.evidence_words.specs.ClientModel.declared.interfaces.Iface.{Iface}
use Rattle.evidence_words.specs.Entries.{Entry}
use Rattle.evidence_words.specs.Inputs.{Site}
use Rattle.evidence_words.specs.Probed.{TurnWord, AsProbe, Probes, Probed}
use Rattle.lease_evidence.specs.Exchanges.{seen_in}
use Rattle.evidence_words.specs.IfaceLives.{now_in}
use Rattle.lease_evidence.specs.HeldLeases.{IsAsGranted, LeaseRests}
use Rattle.lease_evidence.specs.KeptBasis4.{KeptBasis4}
use Rattle.lease_evidence.specs.LeaseBasis.{Calm, FirstAck, CalmFor, LeaseBasis}
use Rattle.lease_evidence.proofs.LawProofs.{granting}
use Rattle.lease_evidence.proofs.LeasedInputs.{Leased}
use Rattle.lease_evidence.proofs.Observer.{Grant, kept_in}
use Rattle.lease_evidence.proofs.Observed.{observes}
use Rattle.lease_evidence.proofs.ProbeTicks.{IsProbed, Bears}
use Rattle.lease_evidence.proofs.Standing.{IsAsking, Reboots, Checks, StandsIn}
use Rattle.lease_evidence.proofs.Watching.{Holds, On, Lasts}

-- ---- the first probe's turn is of no matter

abbrev AnyTurn : TurnWord
AnyTurn e past = Unit {0}

module _ (C : TurnWord) (site : Site) (addr : Ip4) where
  as_probe : (n : ℕ) (e : Entry) (past : List Entry) → AsProbe C C n e past → AsProbe C AnyTurn n e past
  as_probe zero e past h = tt
  as_probe (suc n) e past h = h

  probes : (n w b : ℕ) (past : List Entry) → Probes C C site addr n w b past → Probes C AnyTurn site addr n w b past
  probes zero w b past h = h
  probes (suc n) w b past h =
      since-map _ _ _ (λ e earlier q. (as_probe n e earlier q.0, q.1, q.2, q.3, probes n 1000 e.moment earlier q.4)) past h

  probed : (past : List Entry) → Probed C C site addr past → Probed C AnyTurn site addr past
  probed past h = record {
    later = h.later;
    fourth = h.fourth;
    earlier = h.earlier;
    cut = h.cut;
    probes = probes 3 2000 h.fourth.moment h.earlier h.probes;
    since = h.since;
  }

-- ---- the grant

lasts_unexpired : (first lease at : ℕ) → is_due (if eqb lease INFINITE_LEASE then None else Some (first + SECOND * lease)) at ≡ false
    → is_unexpired first lease at ≡ true
lasts_unexpired first lease at h = by_end (eqb lease INFINITE_LEASE) (first + SECOND * lease) h
  where
    by_end : (endless : Bool) (end : ℕ) → is_due (if endless then None else Some end) at ≡ false → (endless || nat_lt at end) ≡ true
    by_end true end h = refl
    by_end false end h = grind (arith, nat_tests)

-- the lease is as it was granted, or it is the kept one
abbrev pub Rests : Site → LeaseContent → List Entry → Type 0
Rests site lease past = IsAsGranted site lease (now_in past) past ⊎ KeptBasis4 site (V4 lease.net) (now_in past) past

-- an exchange that was granted began with the terms
granted_first : (site : Site) (grant : Grant) (past : List Entry) → Since (CalmFor site grant.opened) (FirstAck site grant.opened grant.terms) past
    → grant.terms.first ≡ grant.opened.exchange.first
granted_first site grant [] h = absurd h
granted_first site grant (e ∷ past) h = elim h [
  | inl f ↦ (granting site grant.opened grant.terms e past f.good).granted.first
  | inr later ↦ granted_first site grant past later.1
]

module _ (site : Site) (past : List Entry) (lease : LeaseContent) where
  by_grant : (terms : Terms4) (grant : Option Grant) → (kept_in site past).grant ≡ grant → terms_of lease ≡ terms → Holds (Lasts (now_in past)) terms grant
      → IsProbed site terms.net.ip past → IsAsGranted site lease (now_in past) past
  by_grant terms None is same holds probed_so = absurd holds
  by_grant terms (Some grant) is same holds probed_so =
      let stands : Since (CalmFor site grant.opened) (FirstAck site grant.opened grant.terms) past = (observes site past).stands grant is in
      let lasts : Lasts (now_in past) grant.terms = subst (λ (t : Terms4). Lasts (now_in past) t) (sym holds.0) holds.1 in
      let as_granted : terms_of lease ≡ grant.terms = same ∙ sym holds.0 in
      let began : grant.terms.first ≡ grant.opened.exchange.first = granted_first site grant past stands in
      record {
        basis = record {
          opened = grant.opened;
          terms = grant.terms;
          gives = ap (λ (t : Terms4). V4 t.net) as_granted;
          granted = stands;
          unexpired = subst (λ (n : ℕ). is_unexpired n grant.terms.lease (now_in past) ≡ true) began
              (lasts_unexpired grant.terms.first grant.terms.lease (now_in past) lasts);
          probed = λ noarp. probed (Calm site) site grant.terms.net.ip past
              (subst (λ (t : Terms4). Probed (Calm site) (Calm site) site t.net.ip past) (sym holds.0) (probed_so noarp));
        };
        terms = as_granted;
        first = ap (λ (t : Terms4). t.first) as_granted ∙ began;
      }

  kept_terms : (kept : Option LeaseContent) (terms : Terms4) → kept ≡ Some lease → option_map terms_of kept ≡ Some terms → terms_of lease ≡ terms
  kept_terms kept terms is same = some_is (ap (λ (k : Option LeaseContent). option_map terms_of k) (sym is) ∙ same)
    where
      some_is : Some (terms_of lease) ≡ Some terms → terms_of lease ≡ terms
      some_is h = cc

  not_held : {A : Type 0} → None ≡ Some lease → A
  not_held h = absurd cc

  -- the kept lease, which is asked for again
  by_asking : (terms : Terms4) (kept : Option LeaseContent) (xid : ℕ) (stood : LeaseContent) → kept ≡ Some lease → kept ≡ Some stood → terms_of stood ≡ terms
      → IsAsking site past stood xid → Lasts (now_in past) terms → KeptBasis4 site (V4 lease.net) (now_in past) past
  by_asking terms kept xid stood is still same asking lasts =
      let lasts_so : Lasts (now_in past) (terms_of stood) = subst (λ (t : Terms4). Lasts (now_in past) t) (sym same) lasts in
      record {
        persistent = asking.persistent;
        lease = stood;
        kept = asking.filed;
        told = asking.told;
        gives = ap (λ (l : LeaseContent). V4 l.net) (one_lease lease stood (sym is ∙ still));
        unexpired = lasts_unexpired stood.first stood.lease (now_in past) lasts_so;
        up = asking.up;
        stays = asking.stays;
        xid = xid;
        asks = asking.asks;
        asked = asking.asked;
        unrefused = asking.unrefused;
      }
    where
      one_lease : (a b : LeaseContent) → Some a ≡ Some b → a ≡ b
      one_lease a b h = cc

  by_rebooting : (exchange : Exchange4) (stands : Option Terms4) (kept : Option LeaseContent) → (if is_some stands then kept else None) ≡ Some lease
      → IfSome stands (Lasts (now_in past)) → IfSome stands (Reboots site past exchange kept) → KeptBasis4 site (V4 lease.net) (now_in past) past
  by_rebooting exchange None kept is lasts r = not_held is
  by_rebooting exchange (Some terms) kept is lasts r = by_asking terms kept exchange.xid r.lease is r.still r.same r.asking lasts

  by_checking : (xid : ℕ) (stands : Option Terms4) (kept : Option LeaseContent) → (if is_some stands then kept else None) ≡ Some lease
      → IfSome stands (Lasts (now_in past)) → IfSome stands (Checks site past xid kept) → KeptBasis4 site (V4 lease.net) (now_in past) past
  by_checking xid None kept is lasts r = not_held is
  by_checking xid (Some terms) kept is lasts r = by_asking terms kept xid r.lease is r.still r.same r.asking lasts

  by_state : (clean : Type 0) (state : State4) (kept : Option LeaseContent) → (if is_held state then kept else None) ≡ Some lease
      → IsKept (held_terms state) kept
      → On (Lasts (now_in past)) state (seen_in site past).current (kept_in site past).answered (kept_in site past).grant
      → Bears site clean state past → StandsIn site past state kept → Rests site lease past
  by_state clean Off kept is sound on bears s = not_held is
  by_state clean (Init due) kept is sound on bears s = not_held is
  by_state clean (Selecting xid began secs backoff due) kept is sound on bears s = not_held is
  by_state clean (Requesting exchange secs backoff due) kept is sound on bears s = not_held is
  by_state clean (Rebooting exchange backoff end due stands) kept is sound on bears s = inr (by_rebooting exchange stands kept is on.1 s)
  by_state clean (Checking xid terms origin acd stands) kept is sound on bears s = inr (by_checking xid stands kept is on.2 s)
  by_state clean (Waiting due) kept is sound on bears s = not_held is
  by_state clean (Bound xid terms acd) kept is sound on bears s =
      inl (by_grant terms (kept_in site past).grant refl (kept_terms kept terms is sound) on.1 bears)
  by_state clean (Renewing exchange terms acd due) kept is sound on bears s =
      inl (by_grant terms (kept_in site past).grant refl (kept_terms kept terms is sound) on.1 bears.1)
  by_state clean (Rebinding exchange terms acd due) kept is sound on bears s =
      inl (by_grant terms (kept_in site past).grant refl (kept_terms kept terms is sound) on.1 bears.1)

-- the lease that an interface holds rests so at the moment of the newest turn
pub lease_rests : (site : Site) (clean : Type 0) (f : Iface) (past : List Entry) (lease : LeaseContent) → Leased site clean f past
    → held_of f.dhcp4 ≡ Some lease → Rests site lease past
lease_rests site clean f past lease leased held =
    by_state site past lease clean f.dhcp4.state f.dhcp4.kept held leased.client.sound.held leased.client.watched.on leased.client.bears
    leased.client.stands.stands

-- and has its basis
pub lease_has_basis : (site : Site) (clean : Type 0) (f : Iface) (past : List Entry) (lease : LeaseContent) → Leased site clean f past
    → held_of f.dhcp4 ≡ Some lease → LeaseRests site (V4 lease.net) (now_in past) past
lease_has_basis site clean f past lease leased held =
    elim (lease_rests site clean f past lease leased held) [ inl granted ↦ inl granted.basis | inr kept ↦ inr kept ]
