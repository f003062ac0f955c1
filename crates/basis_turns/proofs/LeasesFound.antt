-- The turns that are found of a lease are those of its basis.
use Rattle.std.proofs.Common.{◌≡◌, ℕ, ◌<◌, Bool, true, false, if◌then◌else◌, inl, inr, List, [], ◌∷◌, length, Option, Some, None, IfSome, refl, sym, subst, ap, ◌∙◌, nat_eq, arith}
use Rattle.std.proofs.lemmas.Bool.Decides.{nat_tests}
use Rattle.std.specs.Prelude.{◌==◌}
use Rattle.std.specs.Option.{is_some}
use Rattle.machine.specs.Since.{Since, Always}
use Rattle.net_types.specs.declared.address.Ip4.{Ip4}
use Rattle.net_types.specs.declared.address.Net.{Net}
use Rattle.net_types.specs.declared.address.Net.TheVariants.{V4, V6}
use Rattle.net_types.specs.declared.address.Net4.{Net4}
use Rattle.v4_client.specs.declared.states.Answer4.TheVariants as answer
use Rattle.evidence_words.specs.Entries.{Entry}
use Rattle.evidence_words.specs.Inputs.{Site}
use Rattle.evidence_words.specs.Probed.{TurnWord, Probed}
use Rattle.static_judge.specs.LocalEvidence.LinkLocalBasis.{Anything}
use Rattle.static_judge.specs.LeaseEvidence.Exchanges.{Numbered, messages_at, seen_in}
use Rattle.static_judge.specs.LeaseEvidence.LeaseBasis.{Calm, CalmFor, FirstAck, GrantsNothing, LeaseBasis}
use Rattle.static_judge.specs.LeaseEvidence.Replies.{reply_at}
use Rattle.static_judge.proofs.LeaseEvidence.Observed.{observes}
use Rattle.static_judge.proofs.LeaseEvidence.Observer.{Grant, Kept, Latest, Opens as Grows, kept, if_calm, answered_in, hears, kept_in, shown_all, ended_at, stays_at}
use Rattle.lease_judge.specs.Judge.{Granted, judge_in}
use Rattle.lease_judge.specs.Laws.{IsGranted}
use Rattle.lease_judge.specs.Leased.{is_leased}
use Rattle.lease_judge.specs.Numbers.{granted_number, number_of, open_number}
use Rattle.lease_judge.specs.ProbedTurns.{calm_in}
use Rattle.lease_judge.proofs.AsObserver.{as_granted, granted_same}
use Rattle.lease_judge.proofs.GrantsTold.{stands_kept}
use Rattle.lease_judge.proofs.Judging.{grants_judged}
use Rattle.lease_judge.proofs.LeasesTold.{leases_judged, probes_judged}
use Rattle.lease_judge.proofs.ProbedTold.{lease_calm_tells}
use Rattle.basis_turns.specs.Chains.{is_same, probed_turns_in}
use Rattle.basis_turns.specs.LeaseFinds.{granting_in, lease_turns_in, opened_in}
use Rattle.basis_turns.specs.LeaseShown.{LeaseShown, Opens, ProbesShown, ShownLeasesHaveBases}
use Rattle.basis_turns.specs.Laws.{FoundLeasesAreShown}
use Rattle.basis_turns.specs.Turns.{SinceTurn}
use Rattle.basis_turns.specs.declared.leases.Granting.{Granting}
use Rattle.basis_turns.specs.declared.leases.LeaseTurns.{LeaseTurns}
use Rattle.basis_turns.specs.declared.probes.ProbedTurns.{ProbedTurns}
use Rattle.basis_turns.proofs.ChainsTold.{all_found, found}
use Rattle.basis_turns.proofs.SinceTurns.{since_of, to_probed}

alike : (a : ℕ) → (a == a) ≡ true
alike a = grind (arith, nat_tests)

below_is_unlike : (a b : ℕ) → a < b → (a == b) ≡ false
below_is_unlike a b h = grind (arith, nat_tests)

same : (a b : ℕ) → (a == b) ≡ true → a ≡ b
same a b e = grind (arith, nat_tests)

one_of : (a b : Numbered) → Some a ≡ Some b → a ≡ b
one_of a b h = cc

-- ---- the turn of the REQUEST

-- two exchanges that were open are told apart by their numbers
unlike_later : (count : ℕ) (current : Option Numbered) → Latest count current → (x : Numbered) → count < x.number
    → is_same (open_number (record { count = count; current = current })) (Some x.number) ≡ false
unlike_later count None latest x new = refl
unlike_later count (Some y) latest x new = below_is_unlike y.number x.number (subst (λ (n : ℕ). n < x.number) (sym latest) new)

is_not : (count : ℕ) (current : Option Numbered) → Latest count current → (x : Numbered) → count < x.number → current ≡ Some x → ⊥
is_not count None latest x new is = absurd cc
is_not count (Some y) latest x new is =
    let latest_is : y.number ≡ count = latest in
    let number : y.number ≡ x.number = ap (λ (z : Numbered). z.number) (one_of y x is) in
    omega (arith, latest_is, number, new)

module _ (site : Site) where
  abbrev opened : List Entry → ℕ
  opened past = opened_in site past

  abbrev number_at : List Entry → Option ℕ
  number_at past = open_number (seen_in site past)

  kept_opened : (e : Entry) (past : List Entry) → is_same (number_at past) (number_at (e ∷ past)) ≡ true → opened (e ∷ past) ≡ opened past
  kept_opened e past h = ap (λ (b : Bool). if b then opened past else length past) h

  new_opened : (e : Entry) (past : List Entry) → is_same (number_at past) (number_at (e ∷ past)) ≡ false → opened (e ∷ past) ≡ length past
  new_opened e past h = ap (λ (b : Bool). if b then opened past else length past) h

  pub asked : (past : List Entry) (x : Numbered) → (seen_in site past).current ≡ Some x → SinceTurn (opened_in site past) Anything (Opens site x) past
  asked [] x is = absurd cc
  asked (e ∷ past) x is =
      let grows : Grows (seen_in site past) (seen_in site (e ∷ past)) = shown_all e.moment (messages_at site e) (seen_in site past) in
      let number : number_at (e ∷ past) ≡ Some x.number = ap (λ (c : Option Numbered). open_number (record { count = 0; current = c })) is in
      elim (grows.since x is) [
        | inl was ↦
            let before : number_at past ≡ Some x.number = ap (λ (c : Option Numbered). open_number (record { count = 0; current = c })) was in
            let stays : is_same (number_at past) (number_at (e ∷ past)) ≡ true = (λ i. is_same (before i) (number i)) ∙ alike x.number in
            subst (λ (n : ℕ). SinceTurn n Anything (Opens site x) (e ∷ past)) (sym (kept_opened e past stays)) (inr (tt, asked past x was))
        | inr new ↦
            let latest = (observes site past).latest in
            let unlike : is_same (number_at past) (number_at (e ∷ past)) ≡ false =
            ap (is_same (number_at past)) number ∙ unlike_later (seen_in site past).count (seen_in site past).current latest x new in
            subst (λ (n : ℕ). SinceTurn n Anything (Opens site x) (e ∷ past)) (sym (new_opened e past unlike))
            (inl (refl, record { is_open = is; is_new = is_not (seen_in site past).count (seen_in site past).current latest x new }))
      ]

-- ---- the turn of the ACK

-- what never came didn't come
never : (P Q R : TurnWord) → ((e : Entry) (past : List Entry) → Q e past → R e past → ⊥) → (past : List Entry) → Since P Q past → Always R past → ⊥
never P Q R f [] h all = h
never P Q R f (e ∷ past) h all = elim h [
  | inl here ↦ f e past here all.0
  | inr before ↦ never P Q R f past before.1 all.1
]

still_granted : (stays ended : Bool) (before : Option Grant) (grant : Grant) → if_calm stays ended before ≡ Some grant → before ≡ Some grant
still_granted true true before grant h = absurd cc
still_granted true false before grant h = h
still_granted false ended before grant h = absurd cc

module _ (site : Site) (g : Granted) where
  abbrev grant : Grant
  grant = record { opened = g.opened; terms = g.terms }

  abbrev kept_now : Entry → List Entry → Kept
  kept_now e past = kept (kept_in site past).answered (if_calm (stays_at site e past) (ended_at site e) (kept_in site past).grant)

  -- the first ACK of an exchange comes where none of its number was granted
  not_answered : (e : Entry) (past : List Entry) → FirstAck site g.opened g.terms e past → (kept_in site (e ∷ past)).grant ≡ Some grant
      → (kept_in site past).answered ≡ g.opened.number → ⊥
  not_answered e past first has answered =
      let open_now : hears (λ exchange. reply_at site exchange e) (Some g.opened) (kept_now e past) ≡ kept_in site (e ∷ past) =
      ap (λ (c : Option Numbered). hears (λ exchange. reply_at site exchange e) c (kept_now e past)) (sym first.good.is_open) in
      let known : nat_eq (kept_in site past).answered g.opened.number ≡ true = ap (λ (n : ℕ). nat_eq n g.opened.number) answered ∙ alike g.opened.number in
      let left : (kept_now e past).grant ≡ Some grant =
      ap (λ (b : Bool). (answered_in g.opened b (reply_at site g.opened.exchange e) (kept_now e past)).grant) (sym known)
      ∙ ap (λ (k : Kept). k.grant) open_now ∙ has in
      let stood : (kept_in site past).grant ≡ Some grant = still_granted (stays_at site e past) (ended_at site e) (kept_in site past).grant grant left in
      never (CalmFor site g.opened) (FirstAck site g.opened g.terms) (GrantsNothing site g.opened)
      (λ f earlier ack none. none g.terms ack.good) past ((observes site past).stands grant stood) first.first

  unlike_before : (e : Entry) (past : List Entry) → FirstAck site g.opened g.terms e past → (kept_in site (e ∷ past)).grant ≡ Some grant
      → (before : Option Grant) → (kept_in site past).grant ≡ before → is_same (granted_number (as_granted before)) (Some g.opened.number) ≡ false
  unlike_before e past first has None is = refl
  unlike_before e past first has (Some other) is = by (other.opened.number == g.opened.number) refl
    where
      by : (b : Bool) → (other.opened.number == g.opened.number) ≡ b → (other.opened.number == g.opened.number) ≡ false
      by true h = absurd (not_answered e past first has (sym ((observes site past).last other is) ∙ same other.opened.number g.opened.number h))
      by false h = h

  abbrev number_in : List Entry → Option ℕ
  number_in past = granted_number (judge_in site past).granted

  pub record GrantedIn (past : List Entry) : Type 0 where
    pub asked : SinceTurn (granting_in site past).request Anything (Opens site g.opened) past
    pub granted : SinceTurn (granting_in site past).ack (CalmFor site g.opened) (FirstAck site g.opened g.terms) past

  abbrev granting_by : Entry → List Entry → Bool → Granting
  granting_by e past b = if b then granting_in site past else record { request = opened_in site (e ∷ past); ack = length past }

  abbrev AskedBy : Entry → List Entry → Bool → Type 0
  AskedBy e past b = SinceTurn (granting_by e past b).request Anything (Opens site g.opened) (e ∷ past)

  abbrev GrantedBy : Entry → List Entry → Bool → Type 0
  GrantedBy e past b = SinceTurn (granting_by e past b).ack (CalmFor site g.opened) (FirstAck site g.opened g.terms) (e ∷ past)

  kept_granting : (e : Entry) (past : List Entry) → is_same (number_in past) (number_in (e ∷ past)) ≡ true → GrantedIn past
      → CalmFor site g.opened e past → GrantedIn (e ∷ past)
  kept_granting e past h before calm = record {
    asked = subst (λ (b : Bool). AskedBy e past b) (sym h) (inr (tt, before.asked));
    granted = subst (λ (b : Bool). GrantedBy e past b) (sym h) (inr (calm, before.granted));
  }

  new_granting : (e : Entry) (past : List Entry) → is_same (number_in past) (number_in (e ∷ past)) ≡ false
      → FirstAck site g.opened g.terms e past → GrantedIn (e ∷ past)
  new_granting e past h first = record {
    asked = subst (λ (b : Bool). AskedBy e past b) (sym h) (asked site (e ∷ past) g.opened first.good.is_open);
    granted = subst (λ (b : Bool). GrantedBy e past b) (sym h) (inl (refl, first));
  }

  number_of_it : (past : List Entry) → IsGranted site g past → number_in past ≡ Some g.opened.number
  number_of_it past stands = ap granted_number ((grants_judged site past g).1 stands)

  pub granted : (past : List Entry) → IsGranted site g past → GrantedIn past
  granted [] stands = absurd stands
  granted (e ∷ past) stands =
      let number : number_in (e ∷ past) ≡ Some g.opened.number = number_of_it (e ∷ past) stands in
      elim stands [
        | inl first ↦
            let has : (kept_in site (e ∷ past)).grant ≡ Some grant = stands_kept site grant (e ∷ past) (inl first) in
            new_granting e past
            (ap (is_same (number_in past)) number
            ∙ ap (λ (k : Option Granted). is_same (granted_number k) (Some g.opened.number)) (granted_same site past)
            ∙ unlike_before e past first has (kept_in site past).grant refl)
            first
        | inr calm ↦
            let before : number_in past ≡ Some g.opened.number = number_of_it past calm.1 in
            kept_granting e past ((λ i. is_same (before i) (number i)) ∙ alike g.opened.number) (granted past calm.1) calm.0
      ]

-- ---- the address

probes_in : (site : Site) (addr : Ip4) (past : List Entry) (noarp : Bool) → site.managed.conf.flags.noarp ≡ noarp
    → (noarp ≡ false → Probed (Calm site) (λ first before. Unit {0}) site addr past)
    → ProbesShown site addr (if noarp then None else probed_turns_in (calm_in site) site addr past) past
probes_in site addr past true is probed = is
probes_in site addr past false is probed = by (probed_turns_in (calm_in site) site addr past) refl
  where
    has_some : (f : Option ProbedTurns) → probed_turns_in (calm_in site) site addr past ≡ f → is_some f ≡ true
    has_some f h =
        ap is_some (sym h) ∙ all_found (Calm site) (calm_in site) (lease_calm_tells site) site addr past ∙ (probes_judged site addr past).1 (probed refl)

    by : (f : Option ProbedTurns) → probed_turns_in (calm_in site) site addr past ≡ f → ProbesShown site addr f past
    by None h = absurd (let none : is_some (let f : Option ProbedTurns = None in f) ≡ true = has_some None h in cc)
    by (Some turns) h = found (Calm site) (calm_in site) (lease_calm_tells site) site addr past turns h

module _ (site : Site) (net : Net4) (now : ℕ) (past : List Entry) (basis : LeaseBasis site (V4 net) now past) where
  abbrev g : Granted
  g = record { opened = basis.opened; terms = basis.terms }

  same_net : net ≡ basis.terms.net
  same_net = let is : V4 net ≡ V4 basis.terms.net = basis.gives in cc

  shown_by : LeaseShown (lease_turns_in site net.ip past) site (V4 net) now past
  shown_by =
      let it = granted site g past basis.granted in
      record {
        opened = basis.opened;
        terms = basis.terms;
        gives = basis.gives;
        asked = it.asked;
        granted = it.granted;
        unexpired = basis.unexpired;
        probed =
            subst (λ (n : Net4). ProbesShown site basis.terms.net.ip (lease_turns_in site n.ip past).probed past) (sym same_net)
            (probes_in site basis.terms.net.ip past site.managed.conf.flags.noarp refl basis.probed);
      }

shown_if : (site : Site) (net : Net4) (now : ℕ) (past : List Entry) (b : Bool) → is_leased site (V4 net) now past ≡ b
    → IfSome (if b then Some (lease_turns_in site net.ip past) else None) (λ turns. LeaseShown turns site (V4 net) now past)
shown_if site net now past true h = shown_by site net now past ((leases_judged site (V4 net) now past).0 h)
shown_if site net now past false h = tt

some_if : (b : Bool) (turns : LeaseTurns) → is_some (if b then Some turns else None) ≡ b
some_if true turns = refl
some_if false turns = refl

pub found_shown : FoundLeasesAreShown
found_shown site (V4 net) now past =
    let law = leases_judged site (V4 net) now past in
    let is = some_if (is_leased site (V4 net) now past) (lease_turns_in site net.ip past) in
    record {
      shown = shown_if site net now past (is_leased site (V4 net) now past) refl;
      all = (λ h. law.0 (sym is ∙ h), λ basis. is ∙ law.1 basis);
    }
found_shown site (V6 net) now past = record {
  shown = tt;
  all = (λ h. absurd cc, λ basis. absurd (let is : V6 net ≡ V4 basis.terms.net = basis.gives in cc));
}

-- ---- and a basis

probed_of : (site : Site) (addr : Ip4) (past : List Entry) (probed : Option ProbedTurns) → ProbesShown site addr probed past
    → site.managed.conf.flags.noarp ≡ false → Probed (Calm site) (λ first before. Unit {0}) site addr past
probed_of site addr past None h off = absurd (let on : site.managed.conf.flags.noarp ≡ true = h in cc)
probed_of site addr past (Some turns) h off = to_probed (Calm site) Anything site addr turns past h

pub shown_based : ShownLeasesHaveBases
shown_based turns site net now past it = record {
  opened = it.opened;
  terms = it.terms;
  gives = it.gives;
  granted =
      since_of turns.granting.ack (CalmFor site it.opened) (FirstAck site it.opened it.terms) (FirstAck site it.opened it.terms)
      (λ e earlier h. h) past it.granted;
  unexpired = it.unexpired;
  probed = probed_of site it.terms.net.ip past turns.probed it.probed;
}
