-- The laws on the ends of a basis.
use Rattle.std.proofs.Common.{◌≡◌, ℕ, ◌≤◌, ◌<◌, ◌⊎◌, inl, inr, Bool, true, false, List, [], ◌∷◌, ◌++◌, Some, refl, sym, ap, subst, ◌∙◌, arith}
use Rattle.std.proofs.lemmas.Bool.{eqb-true}
use Rattle.std.specs.Prelude.{◌==◌, if◌then◌else◌}
use Rattle.machine.specs.Since.{Since, Always}
use Rattle.net_types.proofs.CaseLaws.{split}
use Rattle.net_types.specs.declared.address.Net.{Net}
use Rattle.net_types.specs.declared.address.Net.TheVariants.{V4}
use Rattle.lease_text.specs.declared.lease.Terms4.{Terms4}
use Rattle.world.specs.declared.wakes.Event.{Event}
use Rattle.world.specs.declared.wakes.Event.TheVariants.{Frame, Carrier, Duplicate, Release, Rebind, Stop, Quiet, End}
use Rattle.v4_message.specs.declared.writing.Kind4.{Kind4}
use Rattle.v4_message.specs.declared.writing.Kind4.TheVariants as kind
use Rattle.v4_client.specs.declared.states.Answer4.TheVariants as answer
use Rattle.evidence_words.specs.Entries.{Entry}
use Rattle.evidence_words.specs.Inputs.{Site, index_at, has_carrier, carrier_after, GoesOn, StaysOn}
use Rattle.lease_evidence.specs.Endings.{GrantedNoMore, EndsBy, LosesCarrier, IsGivenBack, IsToldToStop, IsRefused, EndsBySaying, GrantsNoOther, NewestCounts}
use Rattle.lease_evidence.specs.Exchanges.{Numbered, messages_at, seen_in}
use Rattle.lease_evidence.specs.Laws.{Grants, IsOver}
use Rattle.lease_evidence.specs.LeaseBasis.{Calm, GoodAck, GrantsNothing, FirstAck, CalmFor, LeaseBasis, ends_lease}
use Rattle.lease_evidence.specs.Replies.{reply_at}
use Rattle.lease_evidence.proofs.Cutting.{since_cut, always_cut, silent_says, frame_here}
use Rattle.lease_evidence.proofs.LawProofs.{granting, grants, lasts_not}
use Rattle.lease_evidence.proofs.Observed.{NoneAbove, observes, always_map, one_is}
use Rattle.lease_evidence.proofs.Observer.{Opens, shown_all}

-- ---- what ends a lease isn't calm, and is no ACK

lost_by : (up : Bool) (index : ℕ) (event : Event) → up ≡ true → carrier_after index event up ≡ false → GoesOn up index event → ⊥
lost_by up index (Carrier other now) had lost goes =
    split (index == other)
    (λ here. differ now (goes (eqb-true index other here) had) (now_is (index == other) here lost))
    (λ away. differ up had (up_is (index == other) away lost))
  where
    differ : (b : Bool) → b ≡ true → b ≡ false → ⊥
    differ true t f = absurd cc
    differ false t f = absurd cc

    now_is : (here : Bool) → here ≡ true → (if here then now else up) ≡ false → now ≡ false
    now_is true h e = e
    now_is false h e = absurd cc

    up_is : (here : Bool) → here ≡ false → (if here then now else up) ≡ false → up ≡ false
    up_is true h e = absurd cc
    up_is false h e = e
lost_by up index (Frame other len) had lost goes = absurd cc
lost_by up index (Duplicate other addr) had lost goes = absurd cc
lost_by up index (Release other) had lost goes = absurd cc
lost_by up index (Rebind other) had lost goes = absurd cc
lost_by up index Stop had lost goes = goes
lost_by up index Quiet had lost goes = absurd cc
lost_by up index End had lost goes = absurd cc

pub lost_goes : (site : Site) (e : Entry) (earlier : List Entry) → LosesCarrier site e earlier → StaysOn site e earlier → ⊥
lost_goes site e earlier loses goes = lost_by (has_carrier site earlier) (index_at site) e.event loses.had loses.lost goes

pub given_goes : (site : Site) (e : Entry) (earlier : List Entry) → IsGivenBack site e earlier → StaysOn site e earlier → ⊥
given_goes site e earlier given goes =
    let other : GoesOn (has_carrier site earlier) (index_at site) (Release (index_at site)) =
    subst (GoesOn (has_carrier site earlier) (index_at site)) given goes in
    other refl

pub stop_goes : (site : Site) (e : Entry) (earlier : List Entry) → IsToldToStop site e earlier → StaysOn site e earlier → ⊥
stop_goes site e earlier stop goes = subst (GoesOn (has_carrier site earlier) (index_at site)) stop goes

-- a turn with an acceptable ACK has a frame as its input
pub ack_frame : (site : Site) (opened : Numbered) (terms : Terms4) (e : Entry) (earlier : List Entry) → GoodAck site opened terms e earlier
    → (len : ℕ) × (e.event ≡ Frame (index_at site) len)
ack_frame site opened terms e earlier good =
    let g = granting site opened terms e earlier good in
    frame_here site e g.arrival g.came

lost_grants : (site : Site) (net : Net) (e : Entry) (earlier : List Entry) → LosesCarrier site e earlier → Grants site net e earlier → ⊥
lost_grants site net e earlier loses g =
    let frame = ack_frame site g.opened g.terms e earlier g.good in
    let still : has_carrier site earlier ≡ false =
    subst (λ (event : Event). carrier_after (index_at site) event (has_carrier site earlier) ≡ false) frame.1 loses.lost in
    differ (has_carrier site earlier) loses.had still
  where
    differ : (b : Bool) → b ≡ true → b ≡ false → ⊥
    differ true t f = absurd cc
    differ false t f = absurd cc

given_grants : (site : Site) (net : Net) (e : Entry) (earlier : List Entry) → IsGivenBack site e earlier → Grants site net e earlier → ⊥
given_grants site net e earlier given g =
    let frame = ack_frame site g.opened g.terms e earlier g.good in unlike (index_at site) (index_at site) frame.0 (sym given ∙ frame.1)
  where
    unlike : (i j len : ℕ) → Release i ≡ Frame j len → ⊥
    unlike i j len h = cc

stop_grants : (site : Site) (net : Net) (e : Entry) (earlier : List Entry) → IsToldToStop site e earlier → Grants site net e earlier → ⊥
stop_grants site net e earlier stop g = let frame = ack_frame site g.opened g.terms e earlier g.good in unlike (index_at site) frame.0 (sym stop ∙ frame.1)
  where
    unlike : (j len : ℕ) → Stop ≡ Frame j len → ⊥
    unlike j len h = cc

-- ---- the cut

module _ (site : Site) (net : Net) (now : ℕ) (later : List Entry) (e : Entry) (earlier : List Entry) where
  stands_there : (basis : LeaseBasis site net now (later ++ e ∷ earlier)) → GrantedNoMore site net later (e ∷ earlier)
      → Since (CalmFor site basis.opened) (FirstAck site basis.opened basis.terms) (e ∷ earlier)
  stands_there basis no_more =
      since_cut (CalmFor site basis.opened) (FirstAck site basis.opened basis.terms) (λ x past. Grants site net x past → ⊥) (e ∷ earlier)
      (λ x between n f. n (grants site basis.opened basis.terms x (between ++ e ∷ earlier) f.good net basis.gives)) later no_more basis.granted

  pub ends_so : (Calm site e earlier → ⊥) → (Grants site net e earlier → ⊥) → GrantedNoMore site net later (e ∷ earlier)
      → LeaseBasis site net now (later ++ e ∷ earlier) → ⊥
  ends_so not_calm not_granted no_more basis =
      elim (stands_there basis no_more) [
        | inl f ↦ not_granted (grants site basis.opened basis.terms e earlier f.good net basis.gives)
        | inr on ↦ not_calm on.0.calm
      ]

pub ends_by_loss : EndsBy LosesCarrier
ends_by_loss site net now later e earlier loses =
    ends_so site net now later e earlier (λ calm. lost_goes site e earlier loses calm.stays) (lost_grants site net e earlier loses)

pub ends_by_release : EndsBy IsGivenBack
ends_by_release site net now later e earlier given =
    ends_so site net now later e earlier (λ calm. given_goes site e earlier given calm.stays) (given_grants site net e earlier given)

pub ends_by_stop : EndsBy IsToldToStop
ends_by_stop site net now later e earlier stop =
    ends_so site net now later e earlier (λ calm. stop_goes site e earlier stop calm.stays) (stop_grants site net e earlier stop)

pub ends_by_saying : (sort : Kind4) → ends_lease sort ≡ true → EndsBySaying sort
ends_by_saying sort ends site net now later e earlier says =
    ends_so site net now later e earlier (λ calm. silent_says site e earlier sort ends calm.silent says)

-- ---- exchanges in their order

-- an exchange that was open before is the same as this one, or has a lower number
abbrev pub IsOlder : Site → Numbered → Entry → List Entry → Type 0
IsOlder site opened e past = (other : Numbered) → (seen_in site (e ∷ past)).current ≡ Some other → (other ≡ opened) ⊎ (other.number < opened.number)

pub are_older : (site : Site) (past : List Entry) (opened : Numbered) → (seen_in site past).current ≡ Some opened → Always (IsOlder site opened) past
are_older site [] opened is = tt
are_older site (e ∷ past) opened is =
    let o : Opens (seen_in site past) (seen_in site (e ∷ past)) = shown_all e.moment (messages_at site e) (seen_in site past) in (
      λ other was. inl (one_is other opened (sym was ∙ is)),
      elim (o.since opened is) [
        | inl was ↦ are_older site past opened was
        | inr new ↦ always_map (NoneAbove site (seen_in site past).count) (IsOlder site opened)
            (λ x rest most other was. let within : other.number ≤ (seen_in site past).count = most other was in inr (omega (arith, within, new)))
            past (observes site past).none_above
      ],
    )

-- a grant of an exchange that is older, or had no ACK
older_ack : (site : Site) (opened refused : Numbered) (terms : Terms4) (C : Entry → List Entry → Type 0) (past : List Entry)
    → Always (IsOlder site refused) past → Always (GrantsNothing site refused) past
    → Since C (FirstAck site opened terms) past → opened.number < refused.number
older_ack site opened refused terms C [] older none h = absurd h
older_ack site opened refused terms C (e ∷ past) older none h = elim h [
  | inl f ↦ elim (older.0 opened f.good.is_open) [
    | inl same ↦ absurd (none.0 terms (subst (λ (x : Numbered). GoodAck site x terms e past) same f.good))
    | inr less ↦ less
  ]
  | inr on ↦ older_ack site opened refused terms C past older.1 none.1 on.1
]

pub ends_by_nak : EndsBy IsRefused
ends_by_nak site net now later e earlier refused no_more basis =
    elim (stands_there site net now later e earlier basis no_more) [
      | inl f ↦ (
          let same : basis.opened ≡ refused.opened = one_is basis.opened refused.opened (sym f.good.is_open ∙ refused.is_open) in
          let nak : reply_at site basis.opened.exchange e ≡ answer.Nak =
          subst (λ (x : Numbered). reply_at site x.exchange e ≡ answer.Nak) (sym same) refused.says in
          unlike basis.terms (sym f.good.grants ∙ nak))
      | inr on ↦ on.0.no_nak refused.opened (record { is_open = refused.is_open; refuses = refused.says })
          (older_ack site basis.opened refused.opened basis.terms (CalmFor site basis.opened) earlier
          (are_older site (e ∷ earlier) refused.opened refused.is_open).1 refused.unanswered on.1)
    ]
  where
    unlike : (terms : Terms4) → answer.Ack terms ≡ answer.Nak → ⊥
    unlike terms h = cc

pub newest_counts : NewestCounts
newest_counts site net now later e earlier terms granted no_other basis =
    elim
    (since_cut (CalmFor site basis.opened) (FirstAck site basis.opened basis.terms) (GrantsNoOther site granted.opened)
    (e ∷ earlier) not_later later no_other basis.granted) [
      | inl f ↦ (
          let same : basis.opened ≡ granted.opened = one_is basis.opened granted.opened (sym f.good.is_open ∙ granted.is_open) in
          let ack : reply_at site basis.opened.exchange e ≡ answer.Ack terms =
          subst (λ (x : Numbered). reply_at site x.exchange e ≡ answer.Ack terms) (sym same) granted.says in
          let agreed : basis.terms ≡ terms = one_terms basis.terms terms (sym f.good.grants ∙ ack) in
          record {
            gives = basis.gives ∙ ap (λ (t : Terms4). V4 t.net) agreed;
            lasts = λ over.
                let over_so : IsOver basis.opened basis.terms now =
                subst (λ (x : Numbered). IsOver x basis.terms now) (sym same) (subst (λ (t : Terms4). IsOver granted.opened t now) (sym agreed) over) in
                lasts_not basis.opened.exchange.first basis.terms.lease now over_so.ends over_so.over basis.unexpired;
          })
      | inr on ↦ absurd (on.0.no_ack granted.opened terms (record { is_open = granted.is_open; grants = granted.says })
          (older_ack site basis.opened granted.opened basis.terms (CalmFor site basis.opened) earlier
          (are_older site (e ∷ earlier) granted.opened granted.is_open).1 granted.unanswered on.1))
    ]
  where
    one_terms : (a b : Terms4) → answer.Ack a ≡ answer.Ack b → a ≡ b
    one_terms a b h = cc

    not_later : (x : Entry) (between : List Entry) → GrantsNoOther site granted.opened x (between ++ e ∷ earlier)
        → FirstAck site basis.opened basis.terms x (between ++ e ∷ earlier) → ⊥
    not_later x between alone f =
        let same : basis.opened ≡ granted.opened = alone basis.opened basis.terms f.good in
        let none : Always (GrantsNothing site basis.opened) (e ∷ earlier) = always_cut (GrantsNothing site basis.opened) between (e ∷ earlier) f.first in
        none.0 terms (subst (λ (x : Numbered). GoodAck site x terms e earlier) (sym same) (record { is_open = granted.is_open; grants = granted.says }))
