-- What is still to come of a lease, by the state of the client. Moments are in milliseconds.
use Rattle.std.proofs.Common.{◌≡◌, ℕ, ◌+◌, ◌-◌, ◌*◌, ◌<◌, ◌≤◌, ◌⊎◌, inl, inr, Bool, true, false, ◌&&◌, ◌||◌, nat_le, List, [], ◌∷◌, ◌++◌, Option, Some, None, refl, sym, ap, subst, ◌∙◌, arith}
use Rattle.std.proofs.lemmas.Bool.Decides.{nat_tests}
use Rattle.std.specs.Option.{is_some}
use Rattle.std.specs.List.{list_any}
use Rattle.machine.specs.Moment.{is_due}
use Rattle.net_types.proofs.CaseLaws.{split}
use Rattle.arp_acd.specs.declared.detection.Acd.{Acd}
use Rattle.arp_acd.specs.declared.detection.Phase.{Phase}
use Rattle.arp_acd.specs.declared.detection.Phase.TheVariants.{Probing, Announcing, Held, Over}
use Rattle.lease_text.specs.declared.lease.Terms4.{Terms4}
use Rattle.lease_text.specs.Leases.{LeaseContent}
use Rattle.v4_client.specs.declared.moments.Backoff.{Backoff}
use Rattle.v4_client.specs.declared.moments.Backoff.TheVariants.{Four, Eight, Sixteen, ThirtyTwo, SixtyFour}
use Rattle.v4_client.specs.declared.states.Exchange4.{Exchange4}
use Rattle.v4_client.specs.declared.states.State4.{State4}
use Rattle.v4_client.specs.declared.states.State4.TheVariants.{Off, Init, Selecting, Requesting, Rebooting, Checking, Waiting, Bound, Renewing, Rebinding}
use Rattle.v4_client.specs.Moments.{expiry, standing_until}
use Rattle.evidence_words.specs.Entries.{Entry}
use Rattle.evidence_words.specs.Inputs.{Site}
use Rattle.lease_evidence.specs.Exchanges.{Numbered, messages_at, seen_in}
use Rattle.lease_progress.specs.FairTurns.{probing}
use Rattle.lease_progress.specs.LeaseHeld.{least_asking}
use Rattle.lease_progress.specs.Serving.{Answered, AnsweredBy, Serves, asks, grants, offers, seeks}

-- ---- answers in time

-- By a moment that is over one of some turns answered, and none of those before did: the last one did, and in time.
module _ (limit : ℕ) (good : Entry → Bool) (f : Entry) where
  pub none_did : (later : List Entry) → list_any good later ≡ false → list_any (λ e. nat_le e.moment limit && good e) later ≡ false
  none_did [] h = refl
  none_did (e ∷ later) h = by (good e) (list_any good later) (nat_le e.moment limit) h (none_did later)
    where
      by : (this others soon : Bool) → (this || others) ≡ false → (others ≡ false → list_any (λ e. nat_le e.moment limit && good e) later ≡ false)
          → ((soon && this) || list_any (λ e. nat_le e.moment limit && good e) later) ≡ false
      by true others soon h more = absurd cc
      by false others true h more = more h
      by false others false h more = more h

  abbrev pub InTime : Type 0
  InTime = (f.moment < limit) ⊎ ((f.moment ≤ limit) × (good f ≡ true))

  this_did : (soon this others : Bool) → others ≡ false → ((soon && this) || others) ≡ true → (soon ≡ true) × (this ≡ true)
  this_did true true others none h = (refl, refl)
  this_did true false true none h = absurd cc
  this_did true false false none h = absurd cc
  this_did false this true none h = absurd cc
  this_did false this false none h = absurd cc

  pub answers_in_time : (later : List Entry) → list_any good later ≡ false → (limit ≤ f.moment → AnsweredBy limit good (f ∷ later)) → InTime
  answers_in_time later none answers =
      split (nat_le limit f.moment)
      (λ over. let d : (nat_le f.moment limit ≡ true) × (good f ≡ true) =
      this_did (nat_le f.moment limit) (good f) (list_any (λ e. nat_le e.moment limit && good e) later) (none_did later none)
      (answers (at_most limit f.moment over)) in
      inr (at_most f.moment limit d.0, d.1))
      (λ not_yet. inl (less limit f.moment not_yet))
    where
      at_most : (a b : ℕ) → nat_le a b ≡ true → a ≤ b
      at_most a b h = grind (arith, nat_tests)

      less : (a b : ℕ) → nat_le a b ≡ false → b < a
      less a b h = grind (arith, nat_tests)

-- ---- what a state waits for

-- how long REQUESTs are still said once this one's wait is over, at the least
abbrev pub left_after : Backoff → ℕ
left_after Four = 116000
left_after Eight = 109000
left_after Sixteen = 94000
left_after ThirtyTwo = 63000
left_after SixtyFour = 0

-- how long is still probed once the next probe is due, at the most
abbrev pub left_in : (sent : ℕ) → ℕ
left_in sent = 2000 * (3 - sent)

-- a probe is due in time for the probing to end by a moment
abbrev pub InPhase : (limit now : ℕ) → Phase → Type 0
InPhase limit now (Probing sent due) = (sent ≤ 3) × (due + left_in sent ≤ limit) × (now + left_in sent ≤ limit)
InPhase limit now (Announcing due last) = ⊥
InPhase limit now (Held last) = ⊥
InPhase limit now Over = ⊥

module _ (site : Site) (answered : Answered) (wait end : ℕ) where
  abbrev pub probes : ℕ
  probes = probing site.managed.conf

  -- a DISCOVER that was said in time, and had no OFFER yet
  pub record Sought (xid : ℕ) (past : List Entry) : Type 0 where
    pub later : List Entry
    pub e : Entry
    pub earlier : List Entry
    pub cut : past ≡ later ++ e ∷ earlier
    pub early : e.moment + (wait + (wait + probing site.managed.conf)) ≤ end
    pub said : list_any (seeks xid) (messages_at site e) ≡ true
    pub none : list_any (offers site xid) later ≡ false

  -- a REQUEST that was said in time, had no ACK yet, and is said again up to a moment that is far enough away
  pub record Asked (exchange : Exchange4) (until : ℕ) (past : List Entry) : Type 0 where
    pub later : List Entry
    pub e : Entry
    pub earlier : List Entry
    pub cut : past ≡ later ++ e ∷ earlier
    pub early : e.moment + (wait + probing site.managed.conf) ≤ end
    pub opened : Numbered
    pub is_open : (seen_in site (e ∷ earlier)).current ≡ Some opened
    pub same : opened.exchange ≡ exchange
    pub said : list_any (asks answered exchange.xid) (messages_at site e) ≡ true
    pub none : list_any (grants site exchange) later ≡ false
    pub lasts : e.moment + wait < until

  -- a kept lease is asked for, and what is held meanwhile isn't over before
  pub record Again (exchange : Exchange4) (stop : ℕ) (stands : Option Terms4) (past : List Entry) : Type 0 where
    pub limit : ℕ
    pub asked : Asked exchange limit past
    pub ends : limit ≤ stop
    pub stays : (at : ℕ) → at < limit → is_due (standing_until stands) at ≡ false

  -- an address is probed that was granted in time
  pub record Checks (now : ℕ) (terms : Terms4) (acd : Acd) : Type 0 where
    pub limit : ℕ
    pub within : limit ≤ end
    pub phase : InPhase limit now acd.phase
    pub lasts : is_due (expiry terms) limit ≡ false
    pub same : acd.addr ≡ terms.net.ip

  pub record Waits (now due : ℕ) : Type 0 where
    pub asks_long : wait < least_asking
    pub soon : due + (wait + (wait + probing site.managed.conf)) ≤ end
    pub now_soon : now + (wait + (wait + probing site.managed.conf)) ≤ end

  abbrev pub Pending : (now : ℕ) → List Entry → State4 → Type 0
  Pending now past Off = ⊥
  Pending now past (Init due) = Waits now due
  Pending now past (Selecting xid began secs backoff due) = (wait < least_asking) × Sought xid past
  Pending now past (Requesting exchange secs backoff due) = Asked exchange (due + left_after backoff) past
  Pending now past (Rebooting exchange backoff stop due stands) = Again exchange stop stands past
  Pending now past (Checking xid terms origin acd stands) = Checks now terms acd
  Pending now past (Waiting due) = ⊥
  Pending now past (Bound xid terms acd) = ⊥
  Pending now past (Renewing exchange terms acd due) = ⊥
  Pending now past (Rebinding exchange terms acd due) = ⊥

  -- ---- amid a turn: after its tick, before its input

  module _ (f : Entry) (past : List Entry) where
    pub record SoughtNow (xid : ℕ) : Type 0 where
      pub early : f.moment + (wait + probing site.managed.conf) ≤ end
      pub unanswered : offers site xid f ≡ false → Sought xid (f ∷ past)

    pub record AskedNow (exchange : Exchange4) (until : ℕ) : Type 0 where
      pub early : f.moment + probing site.managed.conf ≤ end
      pub before : f.moment < until
      pub unanswered : grants site exchange f ≡ false → Asked exchange until (f ∷ past)

    pub record AgainNow (exchange : Exchange4) (stop : ℕ) (stands : Option Terms4) : Type 0 where
      pub early : f.moment + probing site.managed.conf ≤ end
      pub unanswered : grants site exchange f ≡ false → Again exchange stop stands (f ∷ past)

    -- the address has passed: it is announced, and the lease is kept
    pub record BoundNow (acd : Option Acd) (kept : Option LeaseContent) : Type 0 where
      pub in_time : f.moment ≤ end
      pub machine : Acd
      pub is : acd ≡ Some machine
      pub due : ℕ
      pub announces : machine.phase ≡ Announcing due None
      pub keeps : is_some kept ≡ true

    abbrev pub Amid : Option LeaseContent → State4 → Type 0
    Amid kept Off = ⊥
    Amid kept (Init due) = Waits f.moment due
    Amid kept (Selecting xid began secs backoff due) = (wait < least_asking) × SoughtNow xid
    Amid kept (Requesting exchange secs backoff due) = AskedNow exchange (due + left_after backoff)
    Amid kept (Rebooting exchange backoff stop due stands) = AgainNow exchange stop stands
    Amid kept (Checking xid terms origin acd stands) = Checks f.moment terms acd
    Amid kept (Waiting due) = ⊥
    Amid kept (Bound xid terms acd) = BoundNow acd kept
    Amid kept (Renewing exchange terms acd due) = ⊥
    Amid kept (Rebinding exchange terms acd due) = ⊥

    module _ (served : Serves site answered wait (f ∷ past)) where
      -- a DISCOVER is answered in time
      pub seeks_on : (xid : ℕ) → Sought xid past → SoughtNow xid
      seeks_on xid s =
          by (answers_in_time (s.e.moment + wait) (offers site xid) f s.later s.none
          (λ over. served.offered (f ∷ s.later) s.e s.earlier xid (ap (λ (es : List Entry). f ∷ es) s.cut) over s.said))
        where
          by : InTime (s.e.moment + wait) (offers site xid) f → SoughtNow xid
          by (inl before) = record {
            early = omega (arith, before, s.early);
            unanswered = λ none. record {
              later = f ∷ s.later;
              e = s.e;
              earlier = s.earlier;
              cut = ap (λ (es : List Entry). f ∷ es) s.cut;
              early = s.early;
              said = s.said;
              none = rw none s.none;
            };
          }
          by (inr here) = record { early = omega (arith, here.0, s.early); unanswered = λ none. absurd (unlike (sym none ∙ here.1)) }
            where
              unlike : false ≡ true → ⊥
              unlike h = cc

      -- so is a REQUEST
      pub asks_on : (exchange : Exchange4) (until : ℕ) → Asked exchange until past → AskedNow exchange until
      asks_on exchange until a =
          by (answers_in_time (a.e.moment + wait) (grants site exchange) f a.later a.none
          (λ over. subst (λ (x : Exchange4). AnsweredBy (a.e.moment + wait) (grants site x) (f ∷ a.later)) a.same
          (served.granted (f ∷ a.later) a.e a.earlier a.opened (ap (λ (es : List Entry). f ∷ es) a.cut) over a.is_open
          (subst (λ (x : Exchange4). list_any (asks answered x.xid) (messages_at site a.e) ≡ true) (sym a.same) a.said))))
        where
          by : InTime (a.e.moment + wait) (grants site exchange) f → AskedNow exchange until
          by (inl before) = record {
            early = omega (arith, before, a.early);
            before = omega (arith, before, a.lasts);
            unanswered = λ none. record {
              later = f ∷ a.later;
              e = a.e;
              earlier = a.earlier;
              cut = ap (λ (es : List Entry). f ∷ es) a.cut;
              early = a.early;
              opened = a.opened;
              is_open = a.is_open;
              same = a.same;
              said = a.said;
              none = rw none a.none;
              lasts = a.lasts;
            };
          }
          by (inr here) = record {
            early = omega (arith, here.0, a.early);
            before = omega (arith, here.0, a.lasts);
            unanswered = λ none. absurd (unlike (sym none ∙ here.1));
          }
            where
              unlike : false ≡ true → ⊥
              unlike h = cc

    -- it is said again
    pub asks_longer : (exchange : Exchange4) (until longer : ℕ) → until ≤ longer → AskedNow exchange until → AskedNow exchange longer
    asks_longer exchange until longer le n = record {
      early = n.early;
      before = omega (arith, le, n.before);
      unanswered = λ none. further (n.unanswered none);
    }
      where
        further : Asked exchange until (f ∷ past) → Asked exchange longer (f ∷ past)
        further a = record {
          later = a.later;
          e = a.e;
          earlier = a.earlier;
          cut = a.cut;
          early = a.early;
          opened = a.opened;
          is_open = a.is_open;
          same = a.same;
          said = a.said;
          none = a.none;
          lasts = omega (arith, le, a.lasts);
        }
