-- The laws of the basis.
use Rattle.std.proofs.Common.{◌≡◌, ◌≢◌, ℕ, ◌+◌, ◌*◌, ◌≤◌, inl, inr, Bool, true, false, ◌&&◌, ◌||◌, List, [], ◌∷◌, Option, Some, None, refl, bytes_eq, eqb, nat_lt, arith}
use Rattle.std.proofs.lemmas.Bool.{eqb-true}
use Rattle.std.proofs.lemmas.Bool.Decides.{nat_tests}
use Rattle.machine.specs.Since.{Since, Always}
use Rattle.net_types.specs.declared.address.Net.{Net}
use Rattle.net_types.specs.declared.address.Net.TheVariants.{V4}
use Rattle.lease_text.specs.declared.lease.Terms4.{Terms4}
use Rattle.lease_text.specs.declared.lease.TheConstants.{INFINITE_LEASE}
use Rattle.v4_client.specs.declared.moments.TheConstants.{SECOND}
use Rattle.v4_client.specs.declared.states.Answer4.TheVariants as answer
use Rattle.v4_client.specs.Answers.{is_unexpired, is_answer}
use Rattle.v4_client.specs.Messages.{Arrival}
use Rattle.evidence_words.specs.ClientModel.ClientSettings.{settings_of}
use Rattle.evidence_words.specs.Entries.{Entry}
use Rattle.evidence_words.specs.Inputs.{Site}
use Rattle.lease_evidence.specs.Exchanges.{Numbered}
use Rattle.lease_evidence.specs.LeaseBasis.{GoodAck, FirstAck, CalmFor}
use Rattle.lease_evidence.specs.Laws.{Grants, NeedsAck, IsOver, EndsWithLease, IsForeign, HearsForeign, ForeignGivesNothing}
use Rattle.lease_evidence.specs.Replies.{reply_by, arrival_in}
use Rattle.lease_evidence.proofs.ReplyFacts.{IsGranted, is_granted}

-- what no entry is hasn't begun
pub never : {A : Type 0} (P Q N : A → List A → Type 0) → ((e : A) (earlier : List A) → N e earlier → Q e earlier → ⊥) → (past : List A)
    → Always N past → Since P Q past → ⊥
never P Q N f [] none h = h
never P Q N f (e ∷ past) none h = elim h [ inl q ↦ f e past none.0 q | inr later ↦ never P Q N f past none.1 later.1 ]

-- ---- an ACK

-- the message that grants
pub record Granting (site : Site) (opened : Numbered) (terms : Terms4) (e : Entry) : Type 0 where
  pub arrival : Arrival
  pub came : arrival_in site e ≡ Some arrival
  pub granted : IsGranted (settings_of site.duid site.managed) opened.exchange arrival terms

granting_by : (site : Site) (opened : Numbered) (terms : Terms4) (e : Entry) (arrival : Option Arrival) → arrival_in site e ≡ arrival
    → reply_by (settings_of site.duid site.managed) opened.exchange arrival ≡ answer.Ack terms → Granting site opened terms e
granting_by site opened terms e None is h = absurd cc
granting_by site opened terms e (Some arrival) is h =
    record { arrival = arrival; came = is; granted = is_granted (settings_of site.duid site.managed) opened.exchange arrival terms h }

pub granting : (site : Site) (opened : Numbered) (terms : Terms4) (e : Entry) (past : List Entry) → GoodAck site opened terms e past
    → Granting site opened terms e
granting site opened terms e past good = granting_by site opened terms e (arrival_in site e) refl good.grants

abbrev pub grants : (site : Site) (opened : Numbered) (terms : Terms4) (e : Entry) (past : List Entry) → GoodAck site opened terms e past
    → (net : Net) → net ≡ V4 terms.net → Grants site net e past
grants site opened terms e past good net gives =
    record { opened = opened; terms = terms; good = good; gives = gives; asked = (granting site opened terms e past good).granted.address }

pub needs_ack : NeedsAck
needs_ack site net now past none basis =
    never (CalmFor site basis.opened) (FirstAck site basis.opened basis.terms) (λ e earlier. Grants site net e earlier → ⊥)
    (λ e earlier n f. n (grants site basis.opened basis.terms e earlier f.good net basis.gives)) past none basis.granted

pub lasts_not : (first lease now : ℕ) → lease ≢ INFINITE_LEASE → first + SECOND * lease ≤ now → is_unexpired first lease now ≡ true → ⊥
lasts_not first lease now ends over h = by_test (eqb lease INFINITE_LEASE) (nat_lt now (first + SECOND * lease)) refl refl h
  where
    by_test : (endless early : Bool) → eqb lease INFINITE_LEASE ≡ endless → nat_lt now (first + SECOND * lease) ≡ early → (endless || early) ≡ true → ⊥
    by_test true early a b e = ends (eqb-true lease INFINITE_LEASE a)
    by_test false true a b e = grind (arith, nat_tests)
    by_test false false a b e = absurd cc

pub ends_with_lease : EndsWithLease
ends_with_lease site net now past over basis =
    never (CalmFor site basis.opened) (FirstAck site basis.opened basis.terms) (λ e earlier. (g : Grants site net e earlier) → IsOver g.opened g.terms now)
    (λ e earlier n f.
    let o : IsOver basis.opened basis.terms now = n (grants site basis.opened basis.terms e earlier f.good net basis.gives) in
    lasts_not basis.opened.exchange.first basis.terms.lease now o.ends o.over basis.unexpired) past over basis.granted

both : (a b : Bool) → (a && b) ≡ true → (a ≡ true) × (b ≡ true)
both true true e = (refl, refl)
both true false e = absurd cc
both false b e = absurd cc

not_foreign : (site : Site) (opened : Numbered) (arrival : Arrival) → is_answer (settings_of site.duid site.managed) opened.exchange.xid arrival ≡ true
    → IsForeign site opened arrival → ⊥
not_foreign site opened arrival mine foreign =
    let h = both (eqb arrival.message.xid opened.exchange.xid) (bytes_eq arrival.message.chaddr.bytes site.managed.spec.mac.bytes) mine in
    elim foreign [ inl other ↦ other (eqb-true arrival.message.xid opened.exchange.xid h.0) | inr mac ↦ absurd (grind (arith, h.1, mac)) ]

pub foreign_gives_nothing : ForeignGivesNothing
foreign_gives_nothing site net now past foreign basis =
    never (CalmFor site basis.opened) (FirstAck site basis.opened basis.terms) (HearsForeign site)
    (λ e earlier n f.
    let g = granting site basis.opened basis.terms e earlier f.good in
    not_foreign site basis.opened g.arrival g.granted.from.mine (n basis.opened g.arrival f.good.is_open g.came)) past foreign basis.granted
