-- The frames that are offered for what an interface says, and which of them were taken.
use Rattle.std.proofs.Common.{◌≡◌, ℕ, ◌-◌, ◌^◌, ◌<◌, max, Bool, true, false, List, [], ◌∷◌, ◌++◌, length, nat_eq, not, ◌≤◌, ◌⊎◌, inl, inr, refl, sym, ap, subst, ◌∙◌, arith}
use Rattle.std.proofs.lemmas.Bool.Decides.{nat_tests}
use Rattle.std.proofs.lemmas.Nat.Bits.{bit_at_or, bit_at-lt, bit_at-pow_other, bit_at-pow_same, bit_at-zero}
use Rattle.std.proofs.lemmas.Map.Keys.{IsDistinct-head, IsDistinct-tail}
use Rattle.std.specs.Prelude.{map, flat_map, ◌==◌}
use Rattle.std.specs.Int.{bit_at}
use Rattle.std.specs.List.{AllByRecursion, IsDistinct, list_any}
use Rattle.net_types.proofs.AllLaws.{all_both, all_join, all_mapped}
use Rattle.net_types.proofs.CaseLaws.{split}
use Rattle.net_types.specs.declared.interface.IfSpec.{IfSpec}
use Rattle.turn_model.specs.V4Message.Requests.{AskContent}
use Rattle.turn_model.specs.IfaceSettings.declared.interfaces.Managed.{Managed}
use Rattle.turn_model.specs.ScriptModel.IfaceSets.{is_in}
use Rattle.turn_model.specs.ClientModel.Messages.{Said}
use Rattle.turn_model.specs.ClientModel.IfaceSteps.{IfaceStep}
use Rattle.turn_model.specs.ClientModel.Clients.{Sending, spelled, sends_of}
use Rattle.turn_model.specs.Turns.{with_iface, marked}
use Rattle.turn_model.proofs.ClientModel.SameInterfaces.{managed_in}
use Rattle.evidence_words.specs.Entries.{Offer, offers_on}
use Rattle.evidence_words.proofs.Made.{all_offers, marked_all}

-- ---- the set of interfaces on which a send failed

one_more_bit : (x a : ℕ) → x ≡ max a 1 → a < 2 → (x == 1) ≡ true
one_more_bit x a e small = grind (arith, nat_tests)

bit_stays : (x a b : ℕ) → x ≡ max a b → b < 2 → (a == 1) ≡ true → (x == 1) ≡ true
bit_stays x a b e small h = grind (arith, nat_tests)

has_itself : (index set : ℕ) → is_in (with_iface index set) index ≡ true
has_itself index set =
    let e : bit_at (with_iface index set) (index - 1) ≡ max (bit_at set (index - 1)) 1 =
    bit_at_or set (2 ^ (index - 1)) (index - 1) ∙ ap (λ b. max (bit_at set (index - 1)) b) (bit_at-pow_same (index - 1)) in
    one_more_bit _ _ e (bit_at-lt set (index - 1))

has_still : (other index set : ℕ) → is_in set index ≡ true → is_in (with_iface other set) index ≡ true
has_still other index set h =
    bit_stays _ _ _ (bit_at_or set (2 ^ (other - 1)) (index - 1)) (bit_at-lt (2 ^ (other - 1)) (index - 1)) h

stays_marked : (index : ℕ) (sends : List Sending) (taken : List Bool) (set : ℕ) → is_in set index ≡ true → is_in (marked_all sends taken set) index ≡ true
stays_marked index [] taken set h = h
stays_marked index (s ∷ sends) [] set h = h
stays_marked index (s ∷ sends) (true ∷ taken) set h = stays_marked index sends taken set h
stays_marked index (s ∷ sends) (false ∷ taken) set h = stays_marked index sends taken (with_iface s.iface.number set) (has_still s.iface.number index set h)

-- ---- what was said and what was offered

-- Each frame spells what was said, and it was taken where no send failed. `ask` is what the DHCPv4 client says of itself.
abbrev pub Offered : IfSpec → (ask : AskContent) → (clean : Type 0) → List Said → List Offer → Type 0
Offered spec ask clean [] [] = Unit {0}
Offered spec ask clean [] (o ∷ offers) = ⊥
Offered spec ask clean (say ∷ said) [] = ⊥
Offered spec ask clean (say ∷ said) (o ∷ offers) = (o.bytes ≡ (spelled spec ask say).bytes) × (clean → o.taken ≡ true) × Offered spec ask clean said offers

-- the offers of some frames on an interface
abbrev found : ℕ → List Sending → List Bool → List Offer
found index sends taken = offers_on index (all_offers sends taken)

abbrev Clean : ℕ → List Sending → List Bool → (set : ℕ) → Type 0
Clean index sends taken set = is_in (marked_all sends taken set) index ≡ false

-- no frame of the interface is among these
none : (index : ℕ) (sends : List Sending) (taken : List Bool) → AllByRecursion (λ s. (s.iface.number == index) ≡ false) sends
    → found index sends taken ≡ []
none index [] taken h = refl
none index (s ∷ sends) [] h = refl
none index (s ∷ sends) (ok ∷ taken) h = rw h.0 (none index sends taken h.1)

same_number : (a b : ℕ) → (a == b) ≡ true → a ≡ b
same_number a b h = grind (arith, nat_tests)

one_more : (spec : IfSpec) (ask : AskContent) (say : Said) (s : Sending) → s.bytes ≡ (spelled spec ask say).bytes → (s.iface.number == spec.index.number) ≡ true
    → (sends : List Sending) (said : List Said) (ok : Bool) (taken : List Bool) (set : ℕ)
    → Offered spec ask (Clean spec.index.number sends taken (marked set s.iface.number ok)) said (found spec.index.number sends taken)
    → Offered spec ask (Clean spec.index.number (s ∷ sends) (ok ∷ taken) set) (say ∷ said) (found spec.index.number (s ∷ sends) (ok ∷ taken))
one_more spec ask say s bytes mine sends said true taken set h = rw mine (bytes, (λ _. refl), h)
one_more spec ask say s bytes mine sends said false taken set h = rw mine (bytes, (λ k. absurd (failed k)), h)
  where
    failed : is_in (marked_all sends taken (with_iface s.iface.number set)) spec.index.number ≡ false → ⊥
    failed k =
        let e : s.iface.number ≡ spec.index.number = same_number _ _ mine in
        let m : is_in (with_iface s.iface.number set) spec.index.number ≡ true =
        subst (λ n. is_in (with_iface n set) spec.index.number ≡ true) (sym e) (has_itself spec.index.number set) in
        let n : is_in (marked_all sends taken (with_iface s.iface.number set)) spec.index.number ≡ true = stays_marked spec.index.number sends taken _ m in
        cc

equal_number : (n : ℕ) → (n == n) ≡ true
equal_number n = grind (arith, nat_tests)

mine : (spec : IfSpec) (ask : AskContent) (say : Said) → ((spelled spec ask say).iface.number == spec.index.number) ≡ true
mine spec ask say = equal_number spec.index.number

-- the frames of the interface in front of those of others
offered-own : (spec : IfSpec) (ask : AskContent) (said : List Said) (sends : List Sending) (taken : List Bool) (set : ℕ)
    → length taken ≡ length (map (spelled spec ask) said ++ sends) → AllByRecursion (λ s. (s.iface.number == spec.index.number) ≡ false) sends
    → Offered spec ask (Clean spec.index.number (map (spelled spec ask) said ++ sends) taken set) said
    (found spec.index.number (map (spelled spec ask) said ++ sends) taken)
offered-own spec ask [] sends taken set len apart =
    subst (λ offers. Offered spec ask (Clean spec.index.number sends taken set) [] offers) (sym (none spec.index.number sends taken apart)) tt
offered-own spec ask (say ∷ said) sends [] set len apart = absurd (omega arith)
offered-own spec ask (say ∷ said) sends (ok ∷ taken) set len apart =
    one_more spec ask say (spelled spec ask say) refl (mine spec ask say) _ said ok taken set
    (offered-own spec ask said sends taken (marked set spec.index.number ok) (omega arith) apart)

-- the outcomes past those of what was said
abbrev beyond : List Said → List Bool → List Bool
beyond [] taken = taken
beyond (say ∷ said) [] = []
beyond (say ∷ said) (ok ∷ taken) = beyond said taken

beyond-length : (spec : IfSpec) (ask : AskContent) (said : List Said) (sends : List Sending) (taken : List Bool)
    → length taken ≡ length (map (spelled spec ask) said ++ sends) → length (beyond said taken) ≡ length sends
beyond-length spec ask [] sends taken len = len
beyond-length spec ask (say ∷ said) sends [] len = absurd (omega arith)
beyond-length spec ask (say ∷ said) sends (ok ∷ taken) len = beyond-length spec ask said sends taken (omega arith)

-- the set past them
abbrev set_after : IfSpec → List Said → List Bool → ℕ → ℕ
set_after spec [] taken set = set
set_after spec (say ∷ said) [] set = set
set_after spec (say ∷ said) (ok ∷ taken) set = set_after spec said taken (marked set spec.index.number ok)

-- frames of another interface are no offers of this one
record Passes (index : ℕ) (offers : List Offer) (rest : List Offer) (now rest_clean : Type 0) : Type 0 where
  same : offers ≡ rest
  clean : now → rest_clean

not_mine : (spec : IfSpec) (ask : AskContent) (index : ℕ) (say : Said) → (spec.index.number == index) ≡ false
    → ((spelled spec ask say).iface.number == index) ≡ false
not_mine spec ask index say h = h

passed : (s : Sending) (index : ℕ) → (s.iface.number == index) ≡ false → (sends : List Sending) (ok : Bool) (taken : List Bool)
    → found index (s ∷ sends) (ok ∷ taken) ≡ found index sends taken
passed s index other sends ok taken = rw other refl

passes : (spec : IfSpec) (ask : AskContent) (index : ℕ) → (spec.index.number == index) ≡ false
    → (said : List Said) (sends : List Sending) (taken : List Bool) (set : ℕ)
    → length taken ≡ length (map (spelled spec ask) said ++ sends)
    → Passes index (found index (map (spelled spec ask) said ++ sends) taken) (found index sends (beyond said taken))
    (Clean index (map (spelled spec ask) said ++ sends) taken set) (Clean index sends (beyond said taken) (set_after spec said taken set))
passes spec ask index other [] sends taken set len = record { same = refl; clean = λ k. k }
passes spec ask index other (say ∷ said) sends [] set len = absurd (omega arith)
passes spec ask index other (say ∷ said) sends (ok ∷ taken) set len =
    let more = passes spec ask index other said sends taken (marked set spec.index.number ok) (omega arith) in
    record {
      same = passed (spelled spec ask say) index (not_mine spec ask index say other) (map (spelled spec ask) said ++ sends) ok taken ∙ more.same;
      clean = more.clean;
    }

offered-clean : (spec : IfSpec) (ask : AskContent) (clean other : Type 0) → (other → clean) → (said : List Said) (offers : List Offer)
    → Offered spec ask clean said offers → Offered spec ask other said offers
offered-clean spec ask clean other f [] [] h = h
offered-clean spec ask clean other f [] (o ∷ offers) h = h
offered-clean spec ask clean other f (say ∷ said) [] h = h
offered-clean spec ask clean other f (say ∷ said) (o ∷ offers) h = (h.0, (λ k. h.1 (f k)), offered-clean spec ask clean other f said offers h.2)

-- ---- all interfaces of a turn

abbrev spec_of : IfaceStep → IfSpec
spec_of step = step.iface.managed.spec

abbrev ask_in : IfaceStep → AskContent
ask_in step = step.iface.dhcp4.settings.ask

said_elsewhere : (spec : IfSpec) (ask : AskContent) (index : ℕ) (said : List Said) → (spec.index.number == index) ≡ false
    → AllByRecursion (λ s. (s.iface.number == index) ≡ false) (map (spelled spec ask) said)
said_elsewhere spec ask index [] h = tt
said_elsewhere spec ask index (say ∷ said) h = (not_mine spec ask index say h, said_elsewhere spec ask index said h)

elsewhere : (index : ℕ) (steps : List IfaceStep) → AllByRecursion (λ step. (index == (spec_of step).index.number) ≡ false) steps
    → AllByRecursion (λ s. (s.iface.number == index) ≡ false) (flat_map sends_of steps)
elsewhere index [] h = tt
elsewhere index (step ∷ steps) h =
    all_join _ (sends_of step) (flat_map sends_of steps) (said_elsewhere (spec_of step) (ask_in step) index step.said (turn_round _ _ h.0))
    (elsewhere index steps h.1)
  where
    turn_round : (a b : ℕ) → (a == b) ≡ false → (b == a) ≡ false
    turn_round a b h = grind (arith, nat_tests)

abbrev pub number_of : Managed → ℕ
number_of m = m.spec.index.number

-- Where no two interfaces have one number, the offers on each are the frames for what it said.
pub offered : (steps : List IfaceStep) (taken : List Bool) (set : ℕ) → length taken ≡ length (flat_map sends_of steps)
    → IsDistinct nat_eq (map number_of (managed_in (map (λ step. step.iface) steps)))
    → AllByRecursion (λ step. Offered (spec_of step) (ask_in step) (Clean (spec_of step).index.number (flat_map sends_of steps) taken set) step.said
    (found (spec_of step).index.number (flat_map sends_of steps) taken)) steps
offered [] taken set len apart = tt
offered (step ∷ steps) taken set len apart =
    let head = IsDistinct-head nat_eq _ _ apart in
    let others : AllByRecursion (λ other. ((spec_of step).index.number == (spec_of other).index.number) ≡ false) steps =
    all_mapped _ (λ step. step.iface) steps (all_mapped _ (λ iface. iface.managed) (map (λ step. step.iface) steps)
    (all_mapped _ number_of (managed_in (map (λ step. step.iface) steps)) head)) in
    let later = offered steps (beyond step.said taken) (set_after (spec_of step) step.said taken set)
    (beyond-length (spec_of step) (ask_in step) step.said (flat_map sends_of steps) taken len) (IsDistinct-tail nat_eq _ _ apart) in (
      offered-own (spec_of step) (ask_in step) step.said (flat_map sends_of steps) taken set len (elsewhere (spec_of step).index.number steps others),
      all_both _ _ _ (λ other apart_from h.
          let p = passes (spec_of step) (ask_in step) (spec_of other).index.number apart_from step.said (flat_map sends_of steps) taken set len in
          subst
          (λ offers. Offered (spec_of other) (ask_in other)
          (Clean (spec_of other).index.number (flat_map sends_of (step ∷ steps)) taken set) other.said offers)
          (sym p.same)
          (offered-clean (spec_of other) (ask_in other) _ _ p.clean other.said _ h)) steps others later,
    )

-- ---- where a send failed

-- whether a frame on an interface was refused
abbrev pub refused_among : List Offer → Bool
refused_among offers = list_any (λ o. not o.taken) offers

not_both : (x a b : ℕ) → x ≡ max a b → b ≡ 0 → (x == 1) ≡ true → (a == 1) ≡ true
not_both x a b e zero h = grind (arith, nat_tests)

no_bit : (x : ℕ) → x ≡ 0 → (x == 1) ≡ true → ⊥
no_bit x e h = grind (arith, nat_tests)

-- another interface leaves the bit as it is
was_in : (other index set : ℕ) → 1 ≤ other → 1 ≤ index → (other == index) ≡ false → is_in (with_iface other set) index ≡ true → is_in set index ≡ true
was_in other index set some_other some unlike h =
    not_both _ _ _ (bit_at_or set (2 ^ (other - 1)) (index - 1))
    (bit_at-pow_other (other - 1) (index - 1) (λ same. apart other index some_other some unlike same)) h
  where
    apart : (a b : ℕ) → 1 ≤ a → 1 ≤ b → (a == b) ≡ false → b - 1 ≡ a - 1 → ⊥
    apart a b first second unlike same = grind (arith, nat_tests)

abbrev Counts : List Sending → Type 0
Counts sends = AllByRecursion (λ s. 1 ≤ s.iface.number) sends

marked_since : (index : ℕ) → 1 ≤ index → (sends : List Sending) (taken : List Bool) (set : ℕ) → Counts sends → is_in (marked_all sends taken set) index ≡ true
    → (is_in set index ≡ true) ⊎ (refused_among (found index sends taken) ≡ true)
marked_since index some [] taken set counts h = inl h
marked_since index some (s ∷ sends) [] set counts h = inl h
marked_since index some (s ∷ sends) (true ∷ taken) set counts h =
    split (s.iface.number == index)
    (λ here. rw here (marked_since index some sends taken set counts.1 h))
    (λ elsewhere. rw elsewhere (marked_since index some sends taken set counts.1 h))
marked_since index some (s ∷ sends) (false ∷ taken) set counts h =
    split (s.iface.number == index)
    (λ here. rw here (inr refl))
    (λ elsewhere. rw elsewhere (elim (marked_since index some sends taken (with_iface s.iface.number set) counts.1 h) [
      | inl is ↦ inl (was_in s.iface.number index set counts.0 some elsewhere is)
      | inr refused ↦ inr refused
    ]))

none_marked : (index : ℕ) → is_in 0 index ≡ true → ⊥
none_marked index h = no_bit _ (bit_at-zero (index - 1)) h

-- where a send of the interface failed, a frame was refused
pub refused : (index : ℕ) → 1 ≤ index → (sends : List Sending) (taken : List Bool) → Counts sends → (is_in (marked_all sends taken 0) index ≡ false → ⊥)
    → refused_among (found index sends taken) ≡ true
refused index some sends taken counts failed =
    by (is_in (marked_all sends taken 0) index) refl
  where
    by : (b : Bool) → is_in (marked_all sends taken 0) index ≡ b → refused_among (found index sends taken) ≡ true
    by true is = elim (marked_since index some sends taken 0 counts is) [ inl first ↦ absurd (none_marked index first) | inr it ↦ it ]
    by false is = absurd (failed is)

said_counted : (spec : IfSpec) (ask : AskContent) (said : List Said) → 1 ≤ spec.index.number → Counts (map (spelled spec ask) said)
said_counted spec ask [] some = tt
said_counted spec ask (say ∷ said) some = (some, said_counted spec ask said some)

sends_counted : (steps : List IfaceStep) → AllByRecursion (λ step. 1 ≤ (spec_of step).index.number) steps → Counts (flat_map sends_of steps)
sends_counted [] counts = tt
sends_counted (step ∷ steps) counts =
    all_join _ (sends_of step) (flat_map sends_of steps) (said_counted (spec_of step) (ask_in step) step.said counts.0) (sends_counted steps counts.1)

-- each step with its offers, and that one was refused where a send failed
pub record ShownBy (Counted : Type 0) (sends : List Sending) (taken : List Bool) (step : IfaceStep) : Type 0 where
  pub offered : Offered (spec_of step) (ask_in step) (Clean (spec_of step).index.number sends taken 0) step.said (found (spec_of step).index.number sends taken)
  pub refused : Counted → (Clean (spec_of step).index.number sends taken 0 → ⊥) → refused_among (found (spec_of step).index.number sends taken) ≡ true

pub all_shown : (Counted : Type 0) (steps : List IfaceStep) (taken : List Bool) → length taken ≡ length (flat_map sends_of steps)
    → IsDistinct nat_eq (map number_of (managed_in (map (λ step. step.iface) steps)))
    → (Counted → AllByRecursion (λ m. 1 ≤ number_of m) (managed_in (map (λ step. step.iface) steps)))
    → AllByRecursion (ShownBy Counted (flat_map sends_of steps) taken) steps
all_shown Counted steps taken len apart counts =
    all_both _ _ _ (λ step one two. record { offered = one; refused = two }) steps (offered steps taken 0 len apart) (refused_each steps (λ k. numbers k))
  where
    numbers : Counted → AllByRecursion (λ step. 1 ≤ (spec_of step).index.number) steps
    numbers k = all_mapped _ (λ step. step.iface) steps (all_mapped _ (λ iface. iface.managed) (map (λ step. step.iface) steps) (counts k))

    refused_each : (some : List IfaceStep) → (Counted → AllByRecursion (λ step. 1 ≤ (spec_of step).index.number) some)
        → AllByRecursion (λ step. Counted → (Clean (spec_of step).index.number (flat_map sends_of steps) taken 0 → ⊥)
        → refused_among (found (spec_of step).index.number (flat_map sends_of steps) taken) ≡ true) some
    refused_each [] h = tt
    refused_each (step ∷ others) h = (
      λ k failed. refused (spec_of step).index.number (h k).0 (flat_map sends_of steps) taken (sends_counted steps (numbers k)) failed,
      refused_each others (λ k. (h k).1),
    )
