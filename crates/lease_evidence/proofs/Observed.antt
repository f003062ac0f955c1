-- What the observer keeps is evidence.
use Rattle.std.proofs.Common.{◌≡◌, ℕ, ◌<◌, ◌≤◌, inl, inr, Bool, true, false, not, ◌||◌, List, [], ◌∷◌, Option, Some, None, IfSome, refl, sym, ap, subst, ◌∙◌, nat_eq, arith}
use Rattle.std.proofs.lemmas.Bool.{eqb-true}
use Rattle.std.proofs.lemmas.Bool.Decides.{nat_tests}
use Rattle.std.specs.Prelude.{◌==◌}
use Rattle.machine.specs.Since.{Since, Always}
use Rattle.lease_text.specs.declared.lease.Terms4.{Terms4}
use Rattle.world.specs.declared.wakes.Event.{Event}
use Rattle.world.specs.declared.wakes.Event.TheVariants.{Frame, Carrier, Duplicate, Release, Rebind, Stop, Quiet, End}
use Rattle.v4_client.specs.declared.states.Answer4.{Answer4}
use Rattle.v4_client.specs.declared.states.Answer4.TheVariants as answer
use Rattle.v4_client.specs.declared.states.Exchange4.{Exchange4}
use Rattle.evidence_words.specs.Entries.{Entry}
use Rattle.evidence_words.specs.Inputs.{Site, index_at, has_carrier, GoesOn}
use Rattle.lease_evidence.specs.Exchanges.{Numbered, Seen, messages_at, seen_in}
use Rattle.lease_evidence.specs.LeaseBasis.{Calm, GrantsNothing, FirstAck, CalmFor}
use Rattle.lease_evidence.specs.Replies.{reply_at}
use Rattle.lease_evidence.proofs.Observer.{Grant, Kept, kept, stays_on, if_calm, answered_in, hears, ended_at, stays_at, kept_in, Latest, Opens, shown_all}

-- ---- calm turns

pub goes_on : (up : Bool) (index : ℕ) (event : Event) → stays_on up index event ≡ true → GoesOn up index event
goes_on up index (Frame other len) h = tt
goes_on up index (Carrier other now) h = λ here was. carried now (index == other) up h (here_too index other here) was
  where
    here_too : (a b : ℕ) → a ≡ b → (a == b) ≡ true
    here_too a b e = grind (arith, nat_tests)

    carried : (now here up : Bool) → (not here || not up || now) ≡ true → here ≡ true → up ≡ true → now ≡ true
    carried true here up h a b = refl
    carried false true true h a b = h
    carried false true false h a b = absurd cc
    carried false false up h a b = absurd cc
goes_on up index (Duplicate other addr) h = tt
goes_on up index (Release other) h = λ here. released (index == other) h (here_too index other here)
  where
    here_too : (a b : ℕ) → a ≡ b → (a == b) ≡ true
    here_too a b e = grind (arith, nat_tests)

    released : (here : Bool) → not here ≡ true → here ≡ true → ⊥
    released true h e = cc
    released false h e = cc
goes_on up index (Rebind other) h = tt
goes_on up index Stop h = absurd cc
goes_on up index Quiet h = tt
goes_on up index End h = tt

-- a grant that stands after a turn stood before it, and the turn was calm
record Stands (site : Site) (e : Entry) (past : List Entry) (before : Option Grant) (grant : Grant) : Type 0 where
  calm : Calm site e past
  stood : before ≡ Some grant

stood_by : (site : Site) (e : Entry) (past : List Entry) (stays ended : Bool) (before : Option Grant) (grant : Grant) → stays_at site e past ≡ stays
    → ended_at site e ≡ ended → if_calm stays ended before ≡ Some grant → Stands site e past before grant
stood_by site e past true true before grant s n h = absurd cc
stood_by site e past true false before grant s n h =
    record { calm = record { stays = goes_on (has_carrier site past) (index_at site) e.event s; silent = n }; stood = h }
stood_by site e past false ended before grant s n h = absurd cc

-- ---- what holds of the observer after some turns

abbrev pub NoneAbove : Site → ℕ → Entry → List Entry → Type 0
NoneAbove site count e past = (x : Numbered) → (seen_in site (e ∷ past)).current ≡ Some x → x.number ≤ count

pub record Observes (site : Site) (past : List Entry) : Type 0 where
  -- the open exchange is the last one
  pub latest : Latest (seen_in site past).count (seen_in site past).current
  pub within : (kept_in site past).answered ≤ (seen_in site past).count
  pub none_above : Always (NoneAbove site (seen_in site past).count) past
  -- one that isn't answered yet had no acceptable ACK
  pub unanswered : (x : Numbered) → (seen_in site past).current ≡ Some x → (kept_in site past).answered < x.number
      → Always (GrantsNothing site x) past
  pub stands : (grant : Grant) → (kept_in site past).grant ≡ Some grant
      → Since (CalmFor site grant.opened) (FirstAck site grant.opened grant.terms) past
  pub last : (grant : Grant) → (kept_in site past).grant ≡ Some grant → grant.opened.number ≡ (kept_in site past).answered

pub always_map : {A : Type 0} (P Q : A → List A → Type 0) → ((e : A) (past : List A) → P e past → Q e past) → (past : List A) → Always P past → Always Q past
always_map P Q f [] h = h
always_map P Q f (e ∷ past) h = (f e past h.0, always_map P Q f past h.1)

pub one_is : (x y : Numbered) → Some x ≡ Some y → x ≡ y
one_is x y e = cc

latest_in : (count : ℕ) (current : Option Numbered) (x : Numbered) → Latest count current → current ≡ Some x → x.number ≡ count
latest_in count current x h is = subst (λ (c : Option Numbered). IfSome c (λ y. y.number ≡ count)) is h

module _ (site : Site) (e : Entry) (past : List Entry) (o : Observes site past) where
  abbrev before : Kept
  before = kept_in site past

  abbrev now : Seen
  now = seen_in site (e ∷ past)

  abbrev mid : Kept
  mid = kept before.answered (if_calm (stays_at site e past) (ended_at site e) before.grant)

  abbrev reply : Exchange4 → Answer4
  reply = λ exchange. reply_at site exchange e

  opening : Opens (seen_in site past) now
  opening = shown_all e.moment (messages_at site e) (seen_in site past)

  latest_now : Latest now.count now.current
  latest_now = opening.latest o.latest

  -- the number of the exchange that is open now
  number_now : (x : Numbered) → now.current ≡ Some x → x.number ≡ now.count
  number_now x is = latest_in now.count now.current x latest_now is

  none_above_now : Always (NoneAbove site now.count) (e ∷ past)
  none_above_now = (
    λ x is. let n : x.number ≡ now.count = number_now x is in omega arith,
    always_map (NoneAbove site (seen_in site past).count) (NoneAbove site now.count)
        (λ other earlier h x is. let most : x.number ≤ (seen_in site past).count = h x is in omega (arith, most, opening.grows)) past o.none_above,
  )

  -- before this turn the open exchange had no ACK, unless it was answered
  before_now : (x : Numbered) → now.current ≡ Some x → before.answered < x.number → Always (GrantsNothing site x) past
  before_now x is less = elim (opening.since x is) [
    | inl was ↦ o.unanswered x was less
    | inr new ↦ always_map (NoneAbove site (seen_in site past).count) (GrantsNothing site x)
        (λ other earlier h terms good. let most : x.number ≤ (seen_in site past).count = h x good.is_open in omega (arith, most, new)) past o.none_above
  ]

  record Follows (after : Kept) : Type 0 where
    within : after.answered ≤ now.count
    unanswered : (x : Numbered) → now.current ≡ Some x → after.answered < x.number → Always (GrantsNothing site x) (e ∷ past)
    stands : (grant : Grant) → after.grant ≡ Some grant → Since (CalmFor site grant.opened) (FirstAck site grant.opened grant.terms) (e ∷ past)
    last : (grant : Grant) → after.grant ≡ Some grant → grant.opened.number ≡ after.answered

  standing : (grant : Grant) → mid.grant ≡ Some grant → Stands site e past before.grant grant
  standing grant is = stood_by site e past (stays_at site e past) (ended_at site e) before.grant grant refl refl is

  -- a grant goes on where no later exchange is answered
  goes : (grant : Grant) → mid.grant ≡ Some grant
      → ((x : Numbered) (terms : Terms4) → now.current ≡ Some x → reply x.exchange ≡ answer.Ack terms → before.answered < x.number → ⊥)
      → ((x : Numbered) → now.current ≡ Some x → reply x.exchange ≡ answer.Nak → before.answered < x.number → ⊥)
      → Since (CalmFor site grant.opened) (FirstAck site grant.opened grant.terms) (e ∷ past)
  goes grant is no_ack no_nak =
      let s = standing grant is in
      let number : grant.opened.number ≡ before.answered = o.last grant s.stood in
      inr (
        record {
          calm = s.calm;
          no_ack = λ later terms good less. no_ack later terms good.is_open good.grants (omega (arith, less, number));
          no_nak = λ later good less. no_nak later good.is_open good.refuses (omega (arith, less, number));
        },
        o.stands grant s.stood,
      )

  last_mid : (grant : Grant) → mid.grant ≡ Some grant → grant.opened.number ≡ before.answered
  last_mid grant is = o.last grant (standing grant is).stood

  within_now : before.answered ≤ now.count
  within_now = omega (arith, o.within, opening.grows)

  no_exchange : now.current ≡ None → Follows mid
  no_exchange none = record {
    within = within_now;
    unanswered = λ x is less. absurd (no_one x (sym none ∙ is));
    stands = λ grant is. goes grant is (λ x terms open_one r less. no_one x (sym none ∙ open_one)) (λ x open_one r less. no_one x (sym none ∙ open_one));
    last = last_mid;
  }
    where
      no_one : (x : Numbered) → None ≡ Some x → ⊥
      no_one x e = cc

  -- an exchange that no ACK answers stays unanswered
  still_unanswered : (x : Numbered) → now.current ≡ Some x
      → ((terms : Terms4) → reply x.exchange ≡ answer.Ack terms → before.answered < x.number → ⊥)
      → (y : Numbered) → now.current ≡ Some y → before.answered < y.number → Always (GrantsNothing site y) (e ∷ past)
  still_unanswered x is no_ack y open_one less =
      let same : x ≡ y = one_is x y (sym is ∙ open_one) in
      let less_x : before.answered < x.number = subst (λ (z : Numbered). before.answered < z.number) (sym same) less in
      subst (λ (z : Numbered). Always (GrantsNothing site z) (e ∷ past)) same (
        λ terms good. no_ack terms good.grants less_x,
        before_now x is less_x,
      )

  -- nothing new is said in the open exchange
  nothing_new : (x : Numbered) → now.current ≡ Some x
      → ((terms : Terms4) → reply x.exchange ≡ answer.Ack terms → before.answered < x.number → ⊥)
      → (reply x.exchange ≡ answer.Nak → before.answered < x.number → ⊥) → Follows mid
  nothing_new x is no_ack no_nak = record {
    within = within_now;
    unanswered = still_unanswered x is no_ack;
    stands = λ grant granted.
        goes grant granted
        (λ y terms open_one r less.
        let same : y ≡ x = one_is y x (sym open_one ∙ is) in
        no_ack terms (subst (λ (z : Numbered). reply z.exchange ≡ answer.Ack terms) same r) (subst (λ (z : Numbered). before.answered < z.number) same less))
        (λ y open_one r less.
        let same : y ≡ x = one_is y x (sym open_one ∙ is) in
        no_nak (subst (λ (z : Numbered). reply z.exchange ≡ answer.Nak) same r) (subst (λ (z : Numbered). before.answered < z.number) same less));
    last = last_mid;
  }

  less_of : (x : Numbered) → now.current ≡ Some x → nat_eq before.answered x.number ≡ false → before.answered < x.number
  less_of x is other =
      let n : x.number ≡ now.count = number_now x is in
      let most : before.answered ≤ now.count = within_now in
      unlike before.answered x.number other (omega arith)
    where
      unlike : (a b : ℕ) → nat_eq a b ≡ false → a ≤ b → a < b
      unlike a b h le = grind (arith, nat_tests)

  replied : (x : Numbered) → now.current ≡ Some x → (known : Bool) → nat_eq before.answered x.number ≡ known
      → (said : Answer4) → reply x.exchange ≡ said → Follows (answered_in x known said mid)
  replied x is true same said r =
      nothing_new x is (λ terms _ less. too_less less) (λ _ less. too_less less)
    where
      too_less : before.answered < x.number → ⊥
      too_less less = let e : before.answered ≡ x.number = eqb-true before.answered x.number same in omega (arith, less, e)
  replied x is false other (answer.Ack terms) r = record {
    within = let n : x.number ≡ now.count = number_now x is in omega arith;
    unanswered = λ y open_one less. absurd (itself_less x y (one_is x y (sym is ∙ open_one)) less);
    stands = λ grant granted.
        subst (λ (g : Grant). Since (CalmFor site g.opened) (FirstAck site g.opened g.terms) (e ∷ past)) (granted_is _ grant granted)
        (inl (record { good = record { is_open = is; grants = r }; first = before_now x is (less_of x is other) }));
    last = λ grant granted. ap (λ (g : Grant). g.opened.number) (sym (granted_is _ grant granted));
  }
    where
      granted_is : (a b : Grant) → Some a ≡ Some b → a ≡ b
      granted_is a b e = cc

      itself_less : (x y : Numbered) → x ≡ y → x.number < y.number → ⊥
      itself_less x y same less = let e : x.number ≡ y.number = ap (λ (z : Numbered). z.number) same in omega (arith, less, e)
  replied x is false other answer.Nak r = record {
    within = within_now;
    unanswered = still_unanswered x is (λ terms i less. not_both terms (sym r ∙ i));
    stands = λ grant granted. absurd cc;
    last = λ grant granted. absurd cc;
  }
    where
      not_both : (terms : Terms4) → answer.Nak ≡ answer.Ack terms → ⊥
      not_both terms e = cc
  replied x is false other answer.Nothing r = nothing_new x is (λ terms i less. cc) (λ i less. cc)
  replied x is false other (answer.Offer address server) r = nothing_new x is (λ terms i less. cc) (λ i less. cc)

  follows : (current : Option Numbered) → now.current ≡ current → Follows (hears reply current mid)
  follows None is = no_exchange is
  follows (Some x) is = replied x is (nat_eq before.answered x.number) refl (reply x.exchange) refl

  observes_next : Observes site (e ∷ past)
  observes_next =
      let f : Follows (hears reply now.current mid) = follows now.current refl in
      record {
        latest = latest_now;
        within = f.within;
        none_above = none_above_now;
        unanswered = f.unanswered;
        stands = f.stands;
        last = f.last;
      }

pub observes : (site : Site) (past : List Entry) → Observes site past
observes site [] = record {
  latest = tt;
  within = itself 0;
  none_above = tt;
  unanswered = λ x is less. tt;
  stands = λ grant is. absurd cc;
  last = λ grant is. absurd cc;
}
  where
    itself : (n : ℕ) → n ≤ n
    itself n = omega arith
observes site (e ∷ past) = observes_next site e past (observes site past)
