-- A grant that stands in what was shown is kept by the observer.
use Rattle.std.proofs.Common.{◌≡◌, ℕ, ◌<◌, ◌≤◌, inl, inr, Bool, true, false, not, ◌||◌, List, [], ◌∷◌, Option, Some, None, refl, sym, subst, nat_eq, arith}
use Rattle.std.proofs.lemmas.Bool.{eqb-true}
use Rattle.std.proofs.lemmas.Bool.Decides.{nat_tests}
use Rattle.std.specs.Prelude.{◌==◌}
use Rattle.machine.specs.Since.{Since, Always}
use Rattle.world.specs.declared.wakes.Event.{Event}
use Rattle.world.specs.declared.wakes.Event.TheVariants.{Frame, Carrier, Duplicate, Release, Rebind, Stop, Quiet, End}
use Rattle.v4_client.specs.declared.states.Answer4.{Answer4}
use Rattle.v4_client.specs.declared.states.Answer4.TheVariants as answer
use Rattle.evidence_words.specs.Entries.{Entry}
use Rattle.evidence_words.specs.Inputs.{Site, index_at, has_carrier, GoesOn}
use Rattle.own_frames4.specs.LeaseEvidence.Exchanges.{Numbered, messages_at, seen_in}
use Rattle.own_frames4.specs.LeaseEvidence.LeaseBasis.{Calm, GrantsNothing, FirstAck, CalmFor}
use Rattle.own_frames4.specs.LeaseEvidence.Replies.{reply_at}
use Rattle.own_frames4.proofs.LeaseEvidence.Observed.{observes}
use Rattle.own_frames4.proofs.LeaseEvidence.Observer.{Grant, Kept, Latest, Opens, kept, stays_on, if_calm, answered_in, hears, ended_at, stays_at, kept_in, shown_all}

-- ---- calm turns are known as such

carries : (here up now : Bool) → (here ≡ true → up ≡ true → now ≡ true) → (not here || not up || now) ≡ true
carries true true true h = refl
carries true true false h = h refl refl
carries true false now h = refl
carries false up now h = refl

elsewhere : (here : Bool) → (here ≡ true → ⊥) → not here ≡ true
elsewhere true h = absurd (h refl)
elsewhere false h = refl

is_here : (index other : ℕ) → (index == other) ≡ true → index ≡ other
is_here index other h = eqb-true index other h

stays_by : (up : Bool) (index : ℕ) (event : Event) → GoesOn up index event → stays_on up index event ≡ true
stays_by up index (Frame other len) h = refl
stays_by up index (Carrier other now) h = carries (index == other) up now (λ here was. h (is_here index other here) was)
stays_by up index (Duplicate other addr) h = refl
stays_by up index (Release other) h = elsewhere (index == other) (λ here. h (is_here index other here))
stays_by up index (Rebind other) h = refl
stays_by up index Stop h = absurd h
stays_by up index Quiet h = refl
stays_by up index End h = refl

-- ---- an exchange that counts as answered had its ACK

same_one : (a b : Numbered) → Some a ≡ Some b → a ≡ b
same_one a b h = cc

abbrev kept_now : Site → Entry → List Entry → Kept
kept_now site e past = kept (kept_in site past).answered (if_calm (stays_at site e past) (ended_at site e) (kept_in site past).grant)

abbrev HadAck : Site → List Entry → Type 0
HadAck site past = (x : Numbered) → (seen_in site past).current ≡ Some x → (kept_in site past).answered ≡ x.number → Always (GrantsNothing site x) past → ⊥

since_before : (site : Site) (e : Entry) (past : List Entry) → Opens (seen_in site past) (seen_in site (e ∷ past))
since_before site e past = shown_all e.moment (messages_at site e) (seen_in site past)

-- a number that was answered before isn't that of an exchange which opens now
not_new : (answered count number : ℕ) → answered ≤ count → count < number → answered ≡ number → ⊥
not_new answered count number within new is = omega (arith, within, new, is)

had_before : (site : Site) (e : Entry) (past : List Entry) → HadAck site past → (x : Numbered) → (seen_in site (e ∷ past)).current ≡ Some x
    → (kept_in site past).answered ≡ x.number → Always (GrantsNothing site x) past → ⊥
had_before site e past before x is number none = elim ((since_before site e past).since x is) [
  | inl was ↦ before x was number none
  | inr new ↦ not_new (kept_in site past).answered (seen_in site past).count x.number (observes site past).within new number
]

module _ (site : Site) (e : Entry) (past : List Entry) (before : HadAck site past) where
  by_reply : (x : Numbered) → (seen_in site (e ∷ past)).current ≡ Some x → Always (GrantsNothing site x) (e ∷ past)
      → (known : Bool) (said : Answer4) → reply_at site x.exchange e ≡ said
      → (answered_in x known said (kept_now site e past)).answered ≡ x.number → ⊥
  by_reply x is none true said r number = had_before site e past before x is number none.1
  by_reply x is none false (answer.Ack terms) r number = none.0 terms (record { is_open = is; grants = r })
  by_reply x is none false answer.Nak r number = had_before site e past before x is number none.1
  by_reply x is none false answer.Nothing r number = had_before site e past before x is number none.1
  by_reply x is none false (answer.Offer address server) r number = had_before site e past before x is number none.1

  by_open : (x : Numbered) → (seen_in site (e ∷ past)).current ≡ Some x → Always (GrantsNothing site x) (e ∷ past)
      → (current : Option Numbered) → current ≡ Some x → (hears (λ exchange. reply_at site exchange e) current (kept_now site e past)).answered ≡ x.number → ⊥
  by_open x is none None c number = absurd cc
  by_open x is none (Some y) c number =
      by_reply x is none (nat_eq (kept_in site past).answered x.number) (reply_at site x.exchange e) refl
      (subst
      (λ (z : Numbered).
      (answered_in z (nat_eq (kept_in site past).answered z.number) (reply_at site z.exchange e) (kept_now site e past)).answered ≡ x.number)
      (same_one y x c) number)

had_ack : (site : Site) (past : List Entry) → HadAck site past
had_ack site [] x is number none = absurd cc
had_ack site (e ∷ past) x is number none = by_open site e past (had_ack site past) x is none (seen_in site (e ∷ past)).current is number

-- ---- what stands is kept

latest_in : (count : ℕ) (current : Option Numbered) (x : Numbered) → Latest count current → current ≡ Some x → x.number ≡ count
latest_in count current x h is = subst (λ (c : Option Numbered). Latest count c) is h

unlike : (answered number granted : ℕ) → nat_eq answered number ≡ false → answered ≤ number → granted ≡ answered → granted < number
unlike answered number granted h within is = grind (arith, nat_tests)

module _ (site : Site) (grant : Grant) where
  abbrev Standing : List Entry → Type 0
  Standing past = Since (CalmFor site grant.opened) (FirstAck site grant.opened grant.terms) past

  abbrev granted_in : Entry → List Entry → Option Numbered → Option Grant
  granted_in e past current = (hears (λ exchange. reply_at site exchange e) current (kept_now site e past)).grant

  -- the first ACK of its exchange is taken
  taken : (e : Entry) (past : List Entry) → FirstAck site grant.opened grant.terms e past
      → (current : Option Numbered) → current ≡ Some grant.opened → granted_in e past current ≡ Some grant
  taken e past first None c = absurd cc
  taken e past first (Some y) c =
      subst (λ (z : Numbered). granted_in e past (Some z) ≡ Some grant) (same_one grant.opened y (sym c))
      (subst
      (λ (said : Answer4).
      (answered_in grant.opened (nat_eq (kept_in site past).answered grant.opened.number) said (kept_now site e past)).grant ≡ Some grant)
      (sym first.good.grants) (by (nat_eq (kept_in site past).answered grant.opened.number) refl))
    where
      by : (known : Bool) → nat_eq (kept_in site past).answered grant.opened.number ≡ known
          → (answered_in grant.opened known (answer.Ack grant.terms) (kept_now site e past)).grant ≡ Some grant
      by true k =
          let answered : (kept_in site past).answered ≡ grant.opened.number = eqb-true (kept_in site past).answered grant.opened.number k in
          absurd (had_before site e past (had_ack site past) grant.opened first.good.is_open answered first.first)
      by false k = refl

  still : (e : Entry) (past : List Entry) → Calm site e past → (kept_in site past).grant ≡ Some grant → (kept_now site e past).grant ≡ Some grant
  still e past calm before = rw (stays_by (has_carrier site past) (index_at site) e.event calm.stays) (rw calm.silent before)

  -- a calm turn leaves it
  stays_kept : (e : Entry) (past : List Entry) → CalmFor site grant.opened e past → (kept_in site past).grant ≡ Some grant
      → (current : Option Numbered) → (seen_in site (e ∷ past)).current ≡ current → granted_in e past current ≡ Some grant
  stays_kept e past calm before None c = still e past calm.calm before
  stays_kept e past calm before (Some y) c = by (nat_eq (kept_in site past).answered y.number) refl (reply_at site y.exchange e) refl
    where
      is_later : nat_eq (kept_in site past).answered y.number ≡ false → grant.opened.number < y.number
      is_later k =
          let number : grant.opened.number ≡ (kept_in site past).answered = (observes site past).last grant before in
          let latest : y.number ≡ (seen_in site (e ∷ past)).count =
          latest_in (seen_in site (e ∷ past)).count (seen_in site (e ∷ past)).current y (observes site (e ∷ past)).latest c in
          let grows : (seen_in site past).count ≤ (seen_in site (e ∷ past)).count = (since_before site e past).grows in
          let within : (kept_in site past).answered ≤ (seen_in site past).count = (observes site past).within in
          unlike (kept_in site past).answered y.number grant.opened.number k (omega arith) number

      by : (known : Bool) → nat_eq (kept_in site past).answered y.number ≡ known → (said : Answer4) → reply_at site y.exchange e ≡ said
          → (answered_in y known said (kept_now site e past)).grant ≡ Some grant
      by true k said r = still e past calm.calm before
      by false k (answer.Ack terms) r = absurd (calm.no_ack y terms (record { is_open = c; grants = r }) (is_later k))
      by false k answer.Nak r = absurd (calm.no_nak y (record { is_open = c; refuses = r }) (is_later k))
      by false k answer.Nothing r = still e past calm.calm before
      by false k (answer.Offer address server) r = still e past calm.calm before

pub stands_kept : (site : Site) (grant : Grant) (past : List Entry) → Standing site grant past → (kept_in site past).grant ≡ Some grant
stands_kept site grant [] h = absurd h
stands_kept site grant (e ∷ past) h = elim h [
  | inl first ↦ taken site grant e past first (seen_in site (e ∷ past)).current first.good.is_open
  | inr calm ↦ stays_kept site grant e past calm.0 (stands_kept site grant past calm.1) (seen_in site (e ∷ past)).current refl
]
