-- The choice that is kept stands exactly where the address has its basis.
use Rattle.std.proofs.Common.{◌≡◌, ℕ, ◌+◌, ◌≤◌, Bool, true, false, ◌⊎◌, inl, inr, if◌then◌else◌, List, [], ◌∷◌, ◌++◌, Option, Some, None, option_and_then, refl, sym, subst, ap, ◌∙◌, arith}
use Rattle.std.specs.List.{AllByRecursion}
use Rattle.std.specs.Option.{is_some}
use Rattle.net_types.proofs.CaseLaws.{gated}
use Rattle.net_types.specs.declared.address.Ip4.{Ip4}
use Rattle.net_types.specs.declared.address.Net.{Net}
use Rattle.net_types.specs.declared.address.Net.TheVariants.{V4, V6}
use Rattle.ipv4ll.specs.Choice.{IsChoice}
use Rattle.evidence_words.specs.ClientModel.WantedRows.{local_net}
use Rattle.evidence_words.specs.Entries.{Entry}
use Rattle.evidence_words.specs.Inputs.{Site, uses, StaysOn}
use Rattle.evidence_words.specs.Probed.{Probes, EachAfter}
use Rattle.local_evidence.specs.LinkLocalBasis.{Anything, IsAlone, UsesApart, LinkLocalBasis}
use Rattle.probe_table.specs.ProbeTimes.{only_if}
use Rattle.local_judge.specs.Choices.{is_calm, is_alone, is_apart, chosen_at, defended, kept_choice, choice_after, choice_turn, choice_in}
use Rattle.local_judge.specs.declared.choices.Choice.{Choice}
use Rattle.local_judge.specs.declared.choices.ChoiceTurn.{ChoiceTurn}
use Rattle.local_judge.specs.Laws.{BasisSince, ChoicesAreTold}
use Rattle.local_judge.proofs.Moments.{at_most, tested, both, parts}
use Rattle.local_judge.proofs.Calmness.{calm_tells}
use Rattle.local_judge.proofs.Announcing.{alone, is_tested}
use Rattle.local_judge.proofs.ProbesTold.{three_told}

-- ---- one turn

-- what holds where the choice begins anew, and where it is kept, holds after a turn in which it may stand
chosen_or_kept : (P : Option Choice → Type 0) (turn : ChoiceTurn) (k : Option Choice) → turn.fits ≡ true
    → P (Some (chosen_at turn)) → P (option_and_then (kept_choice turn) k) → P (choice_after turn k)
chosen_or_kept P turn k fits new old = rw fits (gated P turn.fourth (Some (chosen_at turn)) (option_and_then (kept_choice turn) k) new old)

chosen : (P : Option Choice → Type 0) (turn : ChoiceTurn) (k : Option Choice) → turn.fits ≡ true → turn.fourth ≡ true
    → P (Some (chosen_at turn)) → P (choice_after turn k)
chosen P turn k fits fourth new = rw fits (rw fourth new)

same_some : {A : Type 0} (x y : A) → Some x ≡ Some y → x ≡ y
same_some x y e = cc

record Kept (turn : ChoiceTurn) (k : Option Choice) (choice : Choice) : Type 0 where
  was : Choice
  stood : k ≡ Some was
  keeps : kept_choice turn was ≡ Some choice

record Stands (turn : ChoiceTurn) (k : Option Choice) (choice : Choice) : Type 0 where
  fits : turn.fits ≡ true
  by : ((turn.fourth ≡ true) × (chosen_at turn ≡ choice)) ⊎ Kept turn k choice

stands : (turn : ChoiceTurn) (k : Option Choice) (choice : Choice) → choice_after turn k ≡ Some choice → Stands turn k choice
stands turn k choice h = which turn.fits refl turn.fourth refl k h
  where
    which : (fits : Bool) → turn.fits ≡ fits → (fourth : Bool) → turn.fourth ≡ fourth → (k : Option Choice)
        → (if fits then (if fourth then Some (chosen_at turn) else option_and_then (kept_choice turn) k) else None) ≡ Some choice → Stands turn k choice
    which false f fourth g k e = absurd cc
    which true f true g k e = record { fits = f; by = inl (g, same_some (chosen_at turn) choice e) }
    which true f false g None e = absurd cc
    which true f false g (Some was) e = record { fits = f; by = inr (record { was = was; stood = refl; keeps = e }) }

abbrev used_now : ℕ → Choice → Choice
used_now now choice = record { since = choice.since; used = Some now }

-- a choice that is kept isn't used, or is used for the first time in ten seconds
abbrev Keeps : ChoiceTurn → (was choice : Choice) → Type 0
Keeps turn was choice =
    ((turn.used ≡ false) × (was ≡ choice))
    ⊎ ((turn.used ≡ true) × (is_apart was.used turn.moment ≡ true) × (used_now turn.moment was ≡ choice))

kept_so : (turn : ChoiceTurn) (was choice : Choice) → kept_choice turn was ≡ Some choice → Keeps turn was choice
kept_so turn was choice h = which turn.used refl (is_apart was.used turn.moment) refl h
  where
    which : (used : Bool) → turn.used ≡ used → (apart : Bool) → is_apart was.used turn.moment ≡ apart
        → (if used then (if apart then Some (used_now turn.moment was) else None) else Some was) ≡ Some choice → Keeps turn was choice
    which false u apart a e = inl (u, same_some was choice e)
    which true u true a e = inr (u, a, same_some (used_now turn.moment was) choice e)
    which true u false a e = absurd cc

is_defended : (now : ℕ) (choice : Choice) → is_apart choice.used now ≡ true → defended now choice ≡ Some (used_now now choice)
is_defended now choice h = ap (λ b. if b then Some (used_now now choice) else None) h

appended : (xs : List Entry) (y : Entry) (zs : List Entry) → (xs ++ y ∷ []) ++ zs ≡ xs ++ y ∷ zs
appended [] y zs = refl
appended (x ∷ xs) y zs = ap (λ r. x ∷ r) (appended xs y zs)

module _ (site : Site) (addr : Ip4) where
  abbrev turn_of : Entry → List Entry → ChoiceTurn
  turn_of e past = choice_turn site addr e past

  abbrev kept : List Entry → Option Choice
  kept past = choice_in site addr past

  -- the turns from a fourth one on make a basis with those before it
  record Fits (later : List Entry) (fourth : Entry) (earlier : List Entry) : Type 0 where
    probes : Probes (StaysOn site) Anything site addr 3 2000 fourth.moment earlier
    since : EachAfter (StaysOn site) (later ++ fourth ∷ []) earlier
    all_alone : AllByRecursion (IsAlone site addr) (later ++ fourth ∷ [])
    apart : UsesApart site addr (later ++ fourth ∷ [])

  fits_now : (e : Entry) (past : List Entry) → StaysOn site e past → IsAlone site addr e → (turn_of e past).fits ≡ true
  fits_now e past stays lone = both (is_calm site e past) (is_alone site addr e) ((calm_tells site).no e past stays) (is_tested site addr e lone)

  fourth_now : (e : Entry) (past : List Entry) → Probes (StaysOn site) Anything site addr 3 2000 e.moment past → (turn_of e past).fourth ≡ true
  fourth_now e past probes = (three_told (StaysOn site) (is_calm site) (calm_tells site) site addr past 2000 e.moment).no probes

  -- ---- where there is a basis the choice stands

  abbrev HasUse : (moment : ℕ) → List Entry → Type 0
  HasUse moment [] = ⊥
  HasUse moment (e ∷ turns) = ((uses site addr e ≡ true) × (e.moment ≡ moment)) ⊎ HasUse moment turns

  -- the use that is kept is one of these turns
  abbrev IsUsed : Option ℕ → List Entry → Type 0
  IsUsed None turns = Unit {0}
  IsUsed (Some moment) turns = HasUse moment turns

  abbrev Shows : Option Choice → List Entry → Type 0
  Shows None turns = ⊥
  Shows (Some choice) turns = IsUsed choice.used turns

  abbrev AllBefore : ℕ → List Entry → Type 0
  AllBefore now turns = AllByRecursion (λ before. uses site addr before ≡ true → before.moment + 10000 ≤ now) turns

  long_ago : (moment now : ℕ) (turns : List Entry) → HasUse moment turns → AllBefore now turns → moment + 10000 ≤ now
  long_ago moment now [] h all = absurd h
  long_ago moment now (e ∷ turns) h all = elim h [
    | inl here ↦ subst (λ m. m + 10000 ≤ now) here.1 (all.0 here.0)
    | inr more ↦ long_ago moment now turns more all.1
  ]

  is_long_ago : (used : Option ℕ) (now : ℕ) (turns : List Entry) → IsUsed used turns → AllBefore now turns → is_apart used now ≡ true
  is_long_ago None now turns h all = refl
  is_long_ago (Some moment) now turns h all = tested (moment + 10000) now (long_ago moment now turns h all)

  used_here : (e : Entry) (turns : List Entry) (used : Bool) → uses site addr e ≡ used → IsUsed (only_if used (Some e.moment)) (e ∷ turns)
  used_here e turns true is = inl (is, refl)
  used_here e turns false is = tt

  used_still : (e : Entry) (turns : List Entry) (used : Option ℕ) → IsUsed used turns → IsUsed used (e ∷ turns)
  used_still e turns None h = tt
  used_still e turns (Some moment) h = inr h

  shown_kept : (e : Entry) (turns : List Entry) (choice : Choice) → IsUsed choice.used turns → (used : Bool) → uses site addr e ≡ used
      → (used ≡ true → AllBefore e.moment turns) → Shows (if used then defended e.moment choice else Some choice) (e ∷ turns)
  shown_kept e turns choice h false is apart = used_still e turns choice.used h
  shown_kept e turns choice h true is apart =
      subst (λ k. Shows k (e ∷ turns)) (sym (is_defended e.moment choice (is_long_ago choice.used e.moment turns h (apart refl)))) (inl (is, refl))

  shown_after : (e : Entry) (past turns : List Entry) (k : Option Choice) → Shows k turns → (uses site addr e ≡ true → AllBefore e.moment turns)
      → Shows (option_and_then (kept_choice (turn_of e past)) k) (e ∷ turns)
  shown_after e past turns None h apart = absurd h
  shown_after e past turns (Some choice) h apart = shown_kept e turns choice h (uses site addr e) refl apart

  shown : (later : List Entry) (fourth : Entry) (earlier : List Entry) → Fits later fourth earlier
      → Shows (kept ((later ++ fourth ∷ []) ++ earlier)) (later ++ fourth ∷ [])
  shown [] fourth earlier h =
      chosen (λ k. Shows k (fourth ∷ [])) (turn_of fourth earlier) (kept earlier)
      (fits_now fourth earlier h.since.0 h.all_alone.0) (fourth_now fourth earlier h.probes) (used_here fourth [] (uses site addr fourth) refl)
  shown (e ∷ later) fourth earlier h =
      let turns : List Entry = later ++ fourth ∷ [] in
      let past : List Entry = turns ++ earlier in
      let before : Fits later fourth earlier = record { probes = h.probes; since = h.since.1; all_alone = h.all_alone.1; apart = h.apart.1 } in
      chosen_or_kept (λ k. Shows k (e ∷ turns)) (turn_of e past) (kept past) (fits_now e past h.since.0 h.all_alone.0)
      (used_here e turns (uses site addr e) refl) (shown_after e past turns (kept past) (shown later fourth earlier before) h.apart.0)

  -- ---- where the choice stands there is a basis

  -- no use comes after the one that is kept
  abbrev NoneAfter : Option ℕ → List Entry → Type 0
  NoneAfter None turns = AllByRecursion (λ e. uses site addr e ≡ true → ⊥) turns
  NoneAfter (Some moment) turns = AllByRecursion (λ e. uses site addr e ≡ true → e.moment ≤ moment) turns

  record Found (past : List Entry) (choice : Choice) : Type 0 where
    later : List Entry
    fourth : Entry
    earlier : List Entry
    cut : past ≡ (later ++ fourth ∷ []) ++ earlier
    fits : Fits later fourth earlier
    since : fourth.moment ≡ choice.since
    within : NoneAfter choice.used (later ++ fourth ∷ [])

  unused : (e : Entry) → uses site addr e ≡ false → uses site addr e ≡ true → ⊥
  unused e n y = cc

  itself : (m : ℕ) → m ≤ m
  itself m = omega arith

  none_but_here : (e : Entry) (used : Bool) → uses site addr e ≡ used → NoneAfter (only_if used (Some e.moment)) (e ∷ [])
  none_but_here e true is = (λ y. itself e.moment, tt)
  none_but_here e false is = (unused e is, tt)

  stays_now : (e : Entry) (past : List Entry) → (turn_of e past).fits ≡ true → StaysOn site e past × IsAlone site addr e
  stays_now e past fits =
      let p = parts (is_calm site e past) (is_alone site addr e) fits in
      ((calm_tells site).yes e past p.0, alone site addr e p.1)

  begun : (e : Entry) (past : List Entry) → (turn_of e past).fits ≡ true → (turn_of e past).fourth ≡ true → Found (e ∷ past) (chosen_at (turn_of e past))
  begun e past fits fourth =
      let now = stays_now e past fits in
      record {
        later = [];
        fourth = e;
        earlier = past;
        cut = refl;
        fits = record {
          probes = (three_told (StaysOn site) (is_calm site) (calm_tells site) site addr past 2000 e.moment).yes fourth;
          since = (now.0, tt);
          all_alone = (now.1, tt);
          apart = (λ y. tt, tt);
        };
        since = refl;
        within = none_but_here e (uses site addr e) refl;
      }

  goes_on_so : (e : Entry) (past : List Entry) (was : Choice) (used : Option ℕ) → (turn_of e past).fits ≡ true → (before : Found past was)
      → (uses site addr e ≡ true → AllBefore e.moment (before.later ++ before.fourth ∷ []))
      → NoneAfter used (e ∷ (before.later ++ before.fourth ∷ [])) → Found (e ∷ past) (record { since = was.since; used = used })
  goes_on_so e past was used fits before apart within =
      let now = stays_now e past fits in
      record {
        later = e ∷ before.later;
        fourth = before.fourth;
        earlier = before.earlier;
        cut = ap (λ r. e ∷ r) before.cut;
        fits = record {
          probes = before.fits.probes;
          since = (subst (λ ps. StaysOn site e ps) before.cut now.0, before.fits.since);
          all_alone = (now.1, before.fits.all_alone);
          apart = (apart, before.fits.apart);
        };
        since = before.since;
        within = within;
      }

  none_still : (e : Entry) (used : Option ℕ) (turns : List Entry) → uses site addr e ≡ false → NoneAfter used turns → NoneAfter used (e ∷ turns)
  none_still e None turns is h = (unused e is, h)
  none_still e (Some moment) turns is h = (λ y. absurd (unused e is y), h)

  all_weaker : (P Q : Entry → Type 0) → ((e : Entry) → P e → Q e) → (turns : List Entry) → AllByRecursion P turns → AllByRecursion Q turns
  all_weaker P Q f [] h = tt
  all_weaker P Q f (e ∷ turns) h = (f e h.0, all_weaker P Q f turns h.1)

  far : (m last now : ℕ) → m ≤ last → last + 10000 ≤ now → m + 10000 ≤ now
  far m last now h k = omega arith

  near : (m last now : ℕ) → m ≤ last → last + 10000 ≤ now → m ≤ now
  near m last now h k = omega arith

  all_far : (now : ℕ) (used : Option ℕ) (turns : List Entry) → is_apart used now ≡ true → NoneAfter used turns → AllBefore now turns
  all_far now None turns h w = all_weaker _ _ (λ e n y. absurd (n y)) turns w
  all_far now (Some last) turns h w = all_weaker _ _ (λ e n y. far e.moment last now (n y) (at_most (last + 10000) now h)) turns w

  all_near : (now : ℕ) (used : Option ℕ) (turns : List Entry) → is_apart used now ≡ true → NoneAfter used turns → NoneAfter (Some now) turns
  all_near now None turns h w = all_weaker _ _ (λ e n y. absurd (n y)) turns w
  all_near now (Some last) turns h w = all_weaker _ _ (λ e n y. near e.moment last now (n y) (at_most (last + 10000) now h)) turns w

  found_kept : (e : Entry) (past : List Entry) (was choice : Choice) → (turn_of e past).fits ≡ true → Found past was → Keeps (turn_of e past) was choice
      → Found (e ∷ past) choice
  found_kept e past was choice fits before h =
      let turns : List Entry = before.later ++ before.fourth ∷ [] in
      elim h [
        | inl n ↦ subst (λ c. Found (e ∷ past) c) n.1
            (goes_on_so e past was was.used fits before (λ y. absurd (unused e n.0 y)) (none_still e was.used turns n.0 before.within))
        | inr y ↦ subst (λ c. Found (e ∷ past) c) y.2
            (goes_on_so e past was (Some e.moment) fits before (λ u. all_far e.moment was.used turns y.1 before.within)
            (λ u. itself e.moment, all_near e.moment was.used turns y.1 before.within))
      ]

  found_after : (e : Entry) (past : List Entry) (choice : Choice) → ((was : Choice) → kept past ≡ Some was → Found past was)
      → Stands (turn_of e past) (kept past) choice → Found (e ∷ past) choice
  found_after e past choice earlier h = elim h.by [
    | inl new ↦ subst (λ c. Found (e ∷ past) c) new.1 (begun e past h.fits new.0)
    | inr old ↦ found_kept e past old.was choice h.fits (earlier old.was old.stood) (kept_so (turn_of e past) old.was choice old.keeps)
  ]

  found : (past : List Entry) (choice : Choice) → kept past ≡ Some choice → Found past choice
  found [] choice h = absurd cc
  found (e ∷ past) choice h = found_after e past choice (λ was k. found past was k) (stands (turn_of e past) (kept past) choice h)

  -- ---- together

  shown_stands : (k : Option Choice) (turns : List Entry) → Shows k turns → is_some k ≡ true
  shown_stands None turns h = absurd h
  shown_stands (Some choice) turns h = refl

  abbrev number_of : Net → ℕ
  number_of (V4 net) = net.ip.number
  number_of (V6 net) = 0

  basis_stands : (past : List Entry) → LinkLocalBasis site (V4 (local_net addr)) past → is_some (kept past) ≡ true
  basis_stands past h =
      let same : h.addr ≡ addr = sym (ap (λ net. record { number = number_of net }) h.gives) in
      let p = h.probed in
      let fits : Fits p.later p.fourth p.earlier = record {
        probes = subst (λ a. Probes (StaysOn site) Anything site a 3 2000 p.fourth.moment p.earlier) same p.probes;
        since = p.since;
        all_alone = subst (λ a. AllByRecursion (IsAlone site a) (p.later ++ p.fourth ∷ [])) same h.alone;
        apart = subst (λ a. UsesApart site a (p.later ++ p.fourth ∷ [])) same h.apart;
      } in
      subst (λ ps. is_some (kept ps) ≡ true) (appended p.later p.fourth p.earlier ∙ sym p.cut)
      (shown_stands (kept ((p.later ++ p.fourth ∷ []) ++ p.earlier)) (p.later ++ p.fourth ∷ []) (shown p.later p.fourth p.earlier fits))

  basis_since : (past : List Entry) (choice : Choice) → IsChoice addr → Found past choice → BasisSince site addr past choice.since
  basis_since past choice in_range f = record {
    basis = record {
      addr = addr;
      gives = refl;
      in_range = in_range;
      probed = record {
        later = f.later;
        fourth = f.fourth;
        earlier = f.earlier;
        cut = f.cut ∙ appended f.later f.fourth f.earlier;
        probes = f.fits.probes;
        since = f.fits.since;
      };
      alone = f.fits.all_alone;
      apart = f.fits.apart;
    };
    since = f.since;
  }

  stands_on_basis : (past : List Entry) → IsChoice addr → (k : Option Choice) → kept past ≡ k → is_some k ≡ true
      → LinkLocalBasis site (V4 (local_net addr)) past
  stands_on_basis past in_range None is h = absurd cc
  stands_on_basis past in_range (Some choice) is h = (basis_since past choice in_range (found past choice is)).basis

pub choices : ChoicesAreTold
choices site addr past = record {
  yes = λ in_range h. stands_on_basis site addr past in_range (choice_in site addr past) refl h;
  no = basis_stands site addr past;
  since = λ in_range choice is. basis_since site addr past choice in_range (found site addr past choice is);
}
