-- The turns that are found of a link-local address are those of its basis.
use Rattle.std.proofs.Common.{◌≡◌, ◌⊎◌, ℕ, ◌+◌, ◌≤◌, Bool, true, false, ◌&&◌, nat_le, inl, inr, if◌then◌else◌, List, [], ◌∷◌, ◌++◌, length, Option, Some, None, IfSome, refl, sym, subst, ap, ◌∙◌, arith}
use Rattle.std.proofs.lemmas.Bool.Decides.{nat_tests}
use Rattle.std.specs.Prelude.{◌==◌}
use Rattle.std.specs.List.{AllByRecursion}
use Rattle.std.specs.Option.{is_some, option_map}
use Rattle.net_types.specs.declared.address.Ip4.{Ip4}
use Rattle.net_types.specs.declared.address.Net.{Net}
use Rattle.net_types.specs.declared.address.Net.TheVariants.{V4, V6}
use Rattle.net_types.specs.declared.address.Net4.{Net4}
use Rattle.net_types.specs.declared.address.Net6.{Net6}
use Rattle.ipv4ll.specs.Choice.{IsChoice}
use Rattle.evidence_words.specs.ClientModel.WantedRows.{local_net}
use Rattle.evidence_words.specs.Entries.{Entry}
use Rattle.evidence_words.specs.Inputs.{Site, uses, StaysOn}
use Rattle.evidence_words.specs.Probed.{EachAfter, Probed}
use Rattle.static_judge.specs.LocalEvidence.LinkLocalBasis.{Anything, IsAlone, UsesApart, LinkLocalBasis}
use Rattle.probe_table.specs.ProbeTimes.{only_if}
use Rattle.lease_judge.specs.LocalJudges.Choices.{choice_after, choice_in, choice_turn, chosen_at, is_alone, is_apart, is_calm}
use Rattle.lease_judge.specs.LocalJudges.Judge.{gives_in, in_range}
use Rattle.lease_judge.specs.LocalJudges.declared.choices.Choice.{Choice}
use Rattle.lease_judge.specs.LocalJudges.declared.choices.ChoiceTurn.{ChoiceTurn}
use Rattle.lease_judge.proofs.LocalJudges.Announcing.{alone}
use Rattle.lease_judge.proofs.LocalJudges.Calmness.{calm_tells}
use Rattle.lease_judge.proofs.LocalJudges.Telling.{bases}
use Rattle.basis_turns.specs.Laws.{FoundLocalsAreShown}
use Rattle.basis_turns.specs.LocalFinds.{begun_in, earliest_in, first_of, gone_on, latest_after, latest_in, no_fourth, probes_before, standing, turns_of}
use Rattle.basis_turns.specs.LocalShown.{LocalShown}
use Rattle.basis_turns.specs.ProbedIn.{ProbesIn, three_of}
use Rattle.basis_turns.specs.declared.locals.Standing.{Standing}
use Rattle.basis_turns.specs.declared.probes.ProbedTurns.{ProbedTurns}
use Rattle.basis_turns.specs.declared.probes.ThreeProbes.{ThreeProbes}
use Rattle.basis_turns.proofs.ChainsTold.{told}
use Rattle.basis_turns.proofs.SinceTurns.{to_probes}

at_most : (m n : ℕ) → nat_le m n ≡ true → m ≤ n
at_most m n h = grind (arith, nat_tests)

parts : (a b : Bool) → (a && b) ≡ true → (a ≡ true) × (b ≡ true)
parts true b h = (refl, h)
parts false b h = absurd cc

one_of : {A : Type 0} (a b : A) → Some a ≡ Some b → a ≡ b
one_of a b h = cc

appended : (later : List Entry) (fourth : Entry) (earlier : List Entry) → (later ++ fourth ∷ []) ++ earlier ≡ later ++ fourth ∷ earlier
appended [] fourth earlier = refl
appended (e ∷ later) fourth earlier = ap (λ (turns : List Entry). e ∷ turns) (appended later fourth earlier)

-- ---- what a turn makes of a choice

-- it begins
record Begins (turn : ChoiceTurn) (choice : Choice) : Type 0 where
  fits : turn.fits ≡ true
  fourth : turn.fourth ≡ true
  is : chosen_at turn ≡ choice

begins : (turn : ChoiceTurn) (choice : Choice) → choice_after turn None ≡ Some choice → Begins turn choice
begins turn choice h = by turn.fits refl turn.fourth refl h
  where
    by : (fits : Bool) → turn.fits ≡ fits → (fourth : Bool) → turn.fourth ≡ fourth
        → (if fits then (if fourth then Some (chosen_at turn) else None) else None) ≡ Some choice → Begins turn choice
    by false f fourth g e = absurd cc
    by true f true g e = record { fits = f; fourth = g; is = one_of (chosen_at turn) choice e }
    by true f false g e = absurd cc

abbrev used_now : ℕ → Choice → Choice
used_now now choice = record { since = choice.since; used = Some now }

-- it isn't used, or for the first time in ten seconds
record Keeps (turn : ChoiceTurn) (was choice : Choice) : Type 0 where
  fits : turn.fits ≡ true
  by : ((turn.used ≡ false) × (was ≡ choice)) ⊎ ((turn.used ≡ true) × (is_apart was.used turn.moment ≡ true) × (used_now turn.moment was ≡ choice))

keeps : (turn : ChoiceTurn) (was choice : Choice) → choice_after (no_fourth turn) (Some was) ≡ Some choice → Keeps turn was choice
keeps turn was choice h = which turn.fits refl turn.used refl (is_apart was.used turn.moment) refl h
  where
    which : (fits : Bool) → turn.fits ≡ fits → (used : Bool) → turn.used ≡ used → (apart : Bool) → is_apart was.used turn.moment ≡ apart
        → (if fits then (if used then (if apart then Some (used_now turn.moment was) else None) else Some was) else None) ≡ Some choice → Keeps turn was choice
    which false f used u apart a e = absurd cc
    which true f false u apart a e = record { fits = f; by = inl (u, one_of was choice e) }
    which true f true u true a e = record { fits = f; by = inr (u, a, one_of (used_now turn.moment was) choice e) }
    which true f true u false a e = absurd cc

module _ (site : Site) (addr : Ip4) where
  abbrev turn_of : Entry → List Entry → ChoiceTurn
  turn_of e past = choice_turn site addr e past

  abbrev AllBefore : ℕ → List Entry → Type 0
  AllBefore now turns = AllByRecursion (λ before. uses site addr before ≡ true → before.moment + 10000 ≤ now) turns

  -- no use comes after the one that is kept
  abbrev NoneAfter : Option ℕ → List Entry → Type 0
  NoneAfter None turns = AllByRecursion (λ e. uses site addr e ≡ true → ⊥) turns
  NoneAfter (Some moment) turns = AllByRecursion (λ e. uses site addr e ≡ true → e.moment ≤ moment) turns

  pub record Stood (past : List Entry) (s : Standing) : Type 0 where
    pub later : List Entry
    pub fourth : Entry
    pub earlier : List Entry
    pub cut : past ≡ (later ++ fourth ∷ []) ++ earlier
    pub number : s.turns.fourth ≡ length earlier
    pub probes : ProbesIn (StaysOn site) Anything site addr (three_of s.turns) 2000 fourth.moment earlier
    pub since : EachAfter (StaysOn site) (later ++ fourth ∷ []) earlier
    pub all_alone : AllByRecursion (IsAlone site addr) (later ++ fourth ∷ [])
    pub apart : UsesApart site addr (later ++ fourth ∷ [])
    pub within : NoneAfter s.choice.used (later ++ fourth ∷ [])

  unused : (e : Entry) → uses site addr e ≡ false → uses site addr e ≡ true → ⊥
  unused e n y = cc

  itself : (m : ℕ) → m ≤ m
  itself m = omega arith

  none_but_here : (e : Entry) (used : Bool) → uses site addr e ≡ used → NoneAfter (only_if used (Some e.moment)) (e ∷ [])
  none_but_here e true is = (λ y. itself e.moment, tt)
  none_but_here e false is = (unused e is, tt)

  stays_now : (e : Entry) (past : List Entry) → (turn_of e past).fits ≡ true → StaysOn site e past × IsAlone site addr e
  stays_now e past fits =
      let p = parts (is_calm site e past) (is_alone site addr e) fits in
      ((calm_tells site).yes e past p.0, alone site addr e p.1)

  begun : (e : Entry) (past : List Entry) → (turn_of e past).fits ≡ true → (turn_of e past).fourth ≡ true
      → Stood (e ∷ past) (standing (record { probes = probes_before site addr past; fourth = length past }) (chosen_at (turn_of e past)))
  begun e past fits fourth =
      let now = stays_now e past fits in
      record {
        later = [];
        fourth = e;
        earlier = past;
        cut = refl;
        number = refl;
        probes = (told (StaysOn site) (is_calm site) (calm_tells site) site addr past).three 2000 e.moment fourth;
        since = (now.0, tt);
        all_alone = (now.1, tt);
        apart = (λ y. tt, tt);
        within = none_but_here e (uses site addr e) refl;
      }

  begun_so : (e : Entry) (past : List Entry) (new : Option Choice) → choice_after (turn_of e past) None ≡ new → (s : Standing)
      → option_map (standing (record { probes = probes_before site addr past; fourth = length past })) new ≡ Some s → Stood (e ∷ past) s
  begun_so e past None is s h = absurd cc
  begun_so e past (Some choice) is s h =
      let turns : ProbedTurns = record { probes = probes_before site addr past; fourth = length past } in
      let b = begins (turn_of e past) choice is in
      subst (λ (one : Standing). Stood (e ∷ past) one) (ap (standing turns) b.is ∙ one_of (standing turns choice) s h) (begun e past b.fits b.fourth)

  -- ---- it goes on

  goes_on_so : (e : Entry) (past : List Entry) (turns : ProbedTurns) (was next : Choice) → (turn_of e past).fits ≡ true
      → (before : Stood past (standing turns was)) → (uses site addr e ≡ true → AllBefore e.moment (before.later ++ before.fourth ∷ []))
      → NoneAfter next.used (e ∷ (before.later ++ before.fourth ∷ [])) → Stood (e ∷ past) (standing turns next)
  goes_on_so e past turns was next fits before apart within =
      let now = stays_now e past fits in
      record {
        later = e ∷ before.later;
        fourth = before.fourth;
        earlier = before.earlier;
        cut = ap (λ (r : List Entry). e ∷ r) before.cut;
        number = before.number;
        probes = before.probes;
        since = (subst (λ (ps : List Entry). StaysOn site e ps) before.cut now.0, before.since);
        all_alone = (now.1, before.all_alone);
        apart = (apart, before.apart);
        within = within;
      }

  none_still : (e : Entry) (used : Option ℕ) (turns : List Entry) → uses site addr e ≡ false → NoneAfter used turns → NoneAfter used (e ∷ turns)
  none_still e None turns is h = (unused e is, h)
  none_still e (Some moment) turns is h = (λ y. absurd (unused e is y), h)

  all_weaker : (P Q : Entry → Type 0) → ((e : Entry) → P e → Q e) → (turns : List Entry) → AllByRecursion P turns → AllByRecursion Q turns
  all_weaker P Q f [] h = tt
  all_weaker P Q f (e ∷ turns) h = (f e h.0, all_weaker P Q f turns h.1)

  far : (m last now : ℕ) → m ≤ last → last + 10000 ≤ now → m + 10000 ≤ now
  far m last now h k = omega arith

  near : (m last now : ℕ) → m ≤ last → last + 10000 ≤ now → m ≤ now
  near m last now h k = omega arith

  all_far : (now : ℕ) (used : Option ℕ) (turns : List Entry) → is_apart used now ≡ true → NoneAfter used turns → AllBefore now turns
  all_far now None turns h w = all_weaker _ _ (λ e n y. absurd (n y)) turns w
  all_far now (Some last) turns h w = all_weaker _ _ (λ e n y. far e.moment last now (n y) (at_most (last + 10000) now h)) turns w

  all_near : (now : ℕ) (used : Option ℕ) (turns : List Entry) → is_apart used now ≡ true → NoneAfter used turns → NoneAfter (Some now) turns
  all_near now None turns h w = all_weaker _ _ (λ e n y. absurd (n y)) turns w
  all_near now (Some last) turns h w = all_weaker _ _ (λ e n y. near e.moment last now (n y) (at_most (last + 10000) now h)) turns w

  kept_so : (e : Entry) (past : List Entry) (turns : ProbedTurns) (was next : Choice) → Stood past (standing turns was) → Keeps (turn_of e past) was next
      → Stood (e ∷ past) (standing turns next)
  kept_so e past turns was next before h =
      let all : List Entry = before.later ++ before.fourth ∷ [] in
      elim h.by [
        | inl n ↦ subst (λ (c : Choice). Stood (e ∷ past) (standing turns c)) n.1
            (goes_on_so e past turns was was h.fits before (λ y. absurd (unused e n.0 y)) (none_still e was.used all n.0 before.within))
        | inr y ↦ subst (λ (c : Choice). Stood (e ∷ past) (standing turns c)) y.2
            (goes_on_so e past turns was (used_now e.moment was) h.fits before (λ u. all_far e.moment was.used all y.1 before.within)
            (λ u. itself e.moment, all_near e.moment was.used all y.1 before.within))
      ]

  gone_by : (e : Entry) (past : List Entry) (was : Standing) → Stood past was → (next : Option Choice)
      → choice_after (no_fourth (turn_of e past)) (Some was.choice) ≡ next → (s : Standing) → option_map (standing was.turns) next ≡ Some s → Stood (e ∷ past) s
  gone_by e past was before None is s h = absurd cc
  gone_by e past was before (Some next) is s h =
      subst (λ (one : Standing). Stood (e ∷ past) one) (one_of (standing was.turns next) s h)
      (kept_so e past was.turns was.choice next before (keeps (turn_of e past) was.choice next is))

  gone : (e : Entry) (past : List Entry) (k : Option Standing) → ((s : Standing) → k ≡ Some s → Stood past s) → (s : Standing)
      → gone_on (turn_of e past) k ≡ Some s → Stood (e ∷ past) s
  gone e past None before s h = absurd cc
  gone e past (Some was) before s h = gone_by e past was (before was refl) (choice_after (no_fourth (turn_of e past)) (Some was.choice)) refl s h

  either : (past : List Entry) (one other : Option Standing) → ((s : Standing) → one ≡ Some s → Stood past s) → ((s : Standing) → other ≡ Some s → Stood past s)
      → (s : Standing) → first_of one other ≡ Some s → Stood past s
  either past None other f g s h = g s h
  either past (Some one) other f g s h = f s h

  pub earliest : (past : List Entry) (s : Standing) → earliest_in site addr past ≡ Some s → Stood past s
  earliest [] s h = absurd cc
  earliest (e ∷ past) s h =
      either (e ∷ past) (gone_on (turn_of e past) (earliest_in site addr past)) (begun_in (length past) (probes_before site addr past) (turn_of e past))
      (λ one is. gone e past (earliest_in site addr past) (λ was k. earliest past was k) one is)
      (λ one is. begun_so e past (choice_after (turn_of e past) None) refl one is) s h

  pub latest : (past : List Entry) (s : Standing) → latest_in site addr past ≡ Some s → Stood past s
  latest [] s h = absurd cc
  latest (e ∷ past) s h =
      either (e ∷ past) (begun_in (length past) (probes_before site addr past) (turn_of e past)) (gone_on (turn_of e past) (latest_in site addr past))
      (λ one is. begun_so e past (choice_after (turn_of e past) None) refl one is)
      (λ one is. gone e past (latest_in site addr past) (λ was k. latest past was k) one is) s h

  -- ---- the latest one stands where the choice does

  abbrev choice_of : Option Standing → Option Choice
  choice_of k = option_map (λ (s : Standing). s.choice) k

  after_same : (n : ℕ) (three : ThreeProbes) (turn : ChoiceTurn) (fits fourth used : Bool) (k : Option Standing)
      → choice_of (latest_after n three (record { moment = turn.moment; fits = fits; fourth = fourth; used = used }) k)
      ≡ choice_after (record { moment = turn.moment; fits = fits; fourth = fourth; used = used }) (choice_of k)
  after_same n three turn false fourth used None = refl
  after_same n three turn false fourth used (Some s) = refl
  after_same n three turn true true used k = refl
  after_same n three turn true false used None = refl
  after_same n three turn true false false (Some s) = refl
  after_same n three turn true false true (Some s) = by (is_apart s.choice.used turn.moment)
    where
      by : (apart : Bool) → choice_of (option_map (standing s.turns) (if apart then Some (used_now turn.moment s.choice) else None))
          ≡ (if apart then Some (used_now turn.moment s.choice) else None)
      by true = refl
      by false = refl

  latest_same : (past : List Entry) → choice_of (latest_in site addr past) ≡ choice_in site addr past
  latest_same [] = refl
  latest_same (e ∷ past) =
      let turn = turn_of e past in
      after_same (length past) (probes_before site addr past) turn turn.fits turn.fourth turn.used (latest_in site addr past)
      ∙ ap (choice_after turn) (latest_same past)

  -- ---- the address

  shown_by : (past : List Entry) → IsChoice addr → (s : Standing) → Stood past s → LocalShown s.turns site (V4 (local_net addr)) past
  shown_by past in_range s f = record {
    basis = record {
      addr = addr;
      gives = refl;
      in_range = in_range;
      probed = record {
        later = f.later;
        fourth = f.fourth;
        earlier = f.earlier;
        cut = f.cut ∙ appended f.later f.fourth f.earlier;
        probes = to_probes (StaysOn site) Anything site addr (three_of s.turns) 2000 f.fourth.moment f.earlier f.probes;
        since = f.since;
      };
      alone = f.all_alone;
      apart = f.apart;
    };
    fourth = f.number;
    probes = f.probes;
  }

  found_by : (past : List Entry) → IsChoice addr → (one other : Option Standing) → earliest_in site addr past ≡ one → latest_in site addr past ≡ other
      → IfSome (turns_of (first_of one other)) (λ turns. LocalShown turns site (V4 (local_net addr)) past)
  found_by past in_range (Some s) other is k = shown_by past in_range s (earliest past s is)
  found_by past in_range None (Some s) is k = shown_by past in_range s (latest past s k)
  found_by past in_range None None is k = tt

-- what stands where the choice does is found
some_found : (one other : Option Standing) → is_some other ≡ true → is_some (turns_of (first_of one other)) ≡ true
some_found (Some s) other h = refl
some_found None (Some s) h = refl
some_found None None h = h

some_choice : (k : Option Standing) → is_some (option_map (λ (s : Standing). s.choice) k) ≡ is_some k
some_choice None = refl
some_choice (Some s) = refl

module _ (site : Site) (net : Net4) (past : List Entry) where
  abbrev all_turns : Option ProbedTurns
  all_turns = turns_of (first_of (earliest_in site net.ip past) (latest_in site net.ip past))

  -- its basis says which address it is
  shown_of : LinkLocalBasis site (V4 net) past → IfSome all_turns (λ turns. LocalShown turns site (V4 net) past)
  shown_of basis =
      let is : net ≡ local_net basis.addr = (let e : V4 net ≡ V4 (local_net basis.addr) = basis.gives in cc) in
      subst
      (λ (n : Net4). IfSome (turns_of (first_of (earliest_in site n.ip past) (latest_in site n.ip past))) (λ turns. LocalShown turns site (V4 n) past))
      (sym is)
      (found_by site basis.addr past basis.in_range (earliest_in site basis.addr past) (latest_in site basis.addr past) refl refl)

  stands_of : gives_in site (V4 net) past ≡ true → is_some all_turns ≡ true
  stands_of h =
      let p = parts ((net.len == 16) && in_range net.ip) (is_some (choice_in site net.ip past)) h in
      some_found (earliest_in site net.ip past) (latest_in site net.ip past)
      (sym (some_choice (latest_in site net.ip past)) ∙ ap is_some (latest_same site net.ip past) ∙ p.1)

  shown_if : (b : Bool) → gives_in site (V4 net) past ≡ b → IfSome (if b then all_turns else None) (λ turns. LocalShown turns site (V4 net) past)
  shown_if true h = shown_of ((bases site (V4 net) past).0 h)
  shown_if false h = tt

  some_if : (b : Bool) → gives_in site (V4 net) past ≡ b → is_some (if b then all_turns else None) ≡ b
  some_if true h = stands_of h
  some_if false h = refl

-- an address of IPv6 has no such basis
pub not_six : (site : Site) (net : Net6) (past : List Entry) → LinkLocalBasis site (V6 net) past → ⊥
not_six site net past basis = let is : V6 net ≡ V4 (local_net basis.addr) = basis.gives in cc

pub found_shown : FoundLocalsAreShown
found_shown site (V4 net) past =
    let law = bases site (V4 net) past in
    let is = some_if site net past (gives_in site (V4 net) past) refl in
    record {
      shown = shown_if site net past (gives_in site (V4 net) past) refl;
      all = (λ h. law.0 (sym is ∙ h), λ basis. is ∙ law.1 basis);
    }
found_shown site (V6 net) past = record {
  shown = tt;
  all = (λ h. absurd cc, λ basis. absurd (not_six site net past basis));
}
