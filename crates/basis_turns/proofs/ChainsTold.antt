-- The turns that are kept of an address are those of its probes.
use Rattle.std.proofs.Common.{◌≡◌, ℕ, ◌+◌, ◌≤◌, Bool, true, false, ◌&&◌, ◌||◌, nat_le, if◌then◌else◌, inl, inr, List, [], ◌∷◌, length, Option, Some, None, refl, sym, subst, ap, ◌∙◌, arith}
use Rattle.std.proofs.lemmas.Bool.Decides.{nat_tests}
use Rattle.std.specs.Prelude.{◌==◌}
use Rattle.std.specs.Option.{is_some}
use Rattle.net_types.specs.declared.address.Ip4.{Ip4}
use Rattle.evidence_words.specs.Entries.{Entry}
use Rattle.evidence_words.specs.Inputs.{Site, offers_at, contests}
use Rattle.evidence_words.specs.Probed.{TurnWord, AsProbe, probe_taken}
use Rattle.static_judge.specs.LocalEvidence.LinkLocalBasis.{Anything}
use Rattle.probe_table.specs.ProbeTimes.{TurnTest, earlier_of, only_if, is_past, times_in}
use Rattle.lease_judge.specs.ProbedTurns.{probed_in}
use Rattle.lease_judge.proofs.LocalJudges.Calmness.{Tells}
use Rattle.basis_turns.specs.Chains.{is_same, stays, one_after, two_after, three_after, chain_in, fourth_after, probed_turns_in}
use Rattle.basis_turns.specs.ProbedIn.{ProbesIn, ProbedIn}
use Rattle.basis_turns.specs.declared.probes.ProbeChain.{ProbeChain}
use Rattle.basis_turns.specs.declared.probes.ProbedTurns.{ProbedTurns}
use Rattle.basis_turns.specs.declared.probes.ThreeProbes.{ThreeProbes}

at_most : (m n : ℕ) → nat_le m n ≡ true → m ≤ n
at_most m n h = grind (arith, nat_tests)

same : (a b : ℕ) → (a == b) ≡ true → a ≡ b
same a b e = grind (arith, nat_tests)

unlike_itself : (a : ℕ) → (a == a) ≡ false → ⊥
unlike_itself a e = grind (arith, nat_tests)

parts : (a b : Bool) → (a && b) ≡ true → (a ≡ true) × (b ≡ true)
parts true b h = (refl, h)
parts false b h = absurd cc

-- a moment that counts if a test holds
counted : (test : Bool) (wait now : ℕ) (moment : Option ℕ) → is_past wait (only_if test moment) now ≡ true
    → (test ≡ true) × (is_past wait moment now ≡ true)
counted true wait now moment h = (refl, h)
counted false wait now moment h = absurd cc

one_of : (a b : ProbedTurns) → Some a ≡ Some b → a ≡ b
one_of a b h = cc

pub same_of : (one other : Option ℕ) → is_same one other ≡ true → one ≡ other
same_of None None h = refl
same_of None (Some m) h = absurd cc
same_of (Some m) None h = absurd cc
same_of (Some m) (Some n) h = ap (λ (k : ℕ). Some k) (same m n h)

-- what isn't the moment before is the new one
is_newer : (calm : Bool) (before newer : Option ℕ) → stays calm before (earlier_of (only_if calm before) newer) ≡ false
    → earlier_of (only_if calm before) newer ≡ newer
is_newer false before newer h = refl
is_newer true None newer h = refl
is_newer true (Some m) None h = absurd (unlike_itself m h)
is_newer true (Some m) (Some n) h = which (nat_le m n) h
  where
    which : (b : Bool) → (m == (if b then m else n)) ≡ false → Some (if b then m else n) ≡ Some n
    which true k = absurd (unlike_itself m k)
    which false k = refl

module _ (C : TurnWord) (calm : TurnTest) (tells : Tells calm C) (site : Site) (addr : Ip4) where
  abbrev Are : (turns : List ℕ) → (wait now : ℕ) → List Entry → Type 0
  Are turns wait now past = ProbesIn C Anything site addr turns wait now past

  abbrev probed : Entry → Bool
  probed e = probe_taken site addr (offers_at site e)

  -- ---- one last probe in a turn: `head` and `tail` are the turns, by whether it is the one before

  module _ (e : Entry) (past : List Entry) (head : Bool → ℕ) (tail : Bool → List ℕ) (now_is : head false ≡ length past) (ready : Bool)
      (before : Option ℕ) (wait now : ℕ) (as_probe : ready ≡ true → AsProbe C Anything (length (tail false)) e past)
      (earlier : ready ≡ true → Are (tail false) 1000 e.moment past)
      (was : is_past wait before now ≡ true → Are (head true ∷ tail true) wait now past) where
    abbrev newer : Option ℕ
    newer = only_if (probed e && ready) (Some e.moment)

    abbrev last : Option ℕ
    last = earlier_of (only_if (calm e past) before) newer

    abbrev turns_by : Bool → List ℕ
    turns_by b = head b ∷ tail b

    added : contests site addr e ≡ false → is_past wait newer now ≡ true → Are (head false ∷ tail false) wait now (e ∷ past)
    added calmly h =
        let c = counted (probed e && ready) wait now (Some e.moment) h in
        let p = parts (probed e) ready c.0 in
        inl (now_is, (as_probe p.1, calmly, p.0, at_most (e.moment + wait) now c.1, earlier p.1))

    by_stay : contests site addr e ≡ false → (b : Bool) → stays (calm e past) before last ≡ b → is_past wait last now ≡ true
        → Are (head b ∷ tail b) wait now (e ∷ past)
    by_stay calmly true s h =
        let p = parts (calm e past) (is_same before last) s in
        inr ((tells.yes e past p.0, calmly), was (subst (λ (m : Option ℕ). is_past wait m now ≡ true) (sym (same_of before last p.1)) h))
    by_stay calmly false s h =
        added calmly (subst (λ (m : Option ℕ). is_past wait m now ≡ true) (is_newer (calm e past) before newer s) h)

    pub one_told : (contested : Bool) → contests site addr e ≡ contested → is_past wait (if contested then None else last) now ≡ true
        → Are (turns_by (stays (calm e past) before (if contested then None else last))) wait now (e ∷ past)
    one_told true is h = absurd cc
    one_told false is h = by_stay is (stays (calm e past) before last) refl h

  -- ---- one, two and three of them

  abbrev pub three_list : ThreeProbes → List ℕ
  three_list probes = probes.third ∷ probes.second ∷ probes.first ∷ []

  pub record Told (past : List Entry) : Type 0 where
    pub one : (wait now : ℕ) → is_past wait (times_in calm site addr past).first now ≡ true → Are ((chain_in calm site addr past).one ∷ []) wait now past
    pub two : (wait now : ℕ) → is_past wait (times_in calm site addr past).second now ≡ true
        → Are ((chain_in calm site addr past).two.second ∷ (chain_in calm site addr past).two.first ∷ []) wait now past
    pub three : (wait now : ℕ) → is_past wait (times_in calm site addr past).third now ≡ true
        → Are (three_list (chain_in calm site addr past).three) wait now past

  pub told : (past : List Entry) → Told past
  told [] = record { one = λ wait now h. absurd cc; two = λ wait now h. absurd cc; three = λ wait now h. absurd cc }
  told (e ∷ past) =
      let before = told past in
      let times = times_in calm site addr past in
      let chain : ProbeChain = chain_in calm site addr past in
      let n = length past in
      record {
        one = λ wait now h. one_told e past (λ b. one_after n b chain) (λ b. []) refl true times.first wait now
            (λ r. tt) (λ r. tt) (before.one wait now) (contests site addr e) refl h;
        two = λ wait now h. one_told e past (λ b. (two_after n b chain).second) (λ b. (two_after n b chain).first ∷ []) refl
            (calm e past && is_past 1000 times.first e.moment) times.second wait now
            (λ r. tells.yes e past (parts (calm e past) (is_past 1000 times.first e.moment) r).0)
            (λ r. before.one 1000 e.moment (parts (calm e past) (is_past 1000 times.first e.moment) r).1)
            (before.two wait now) (contests site addr e) refl h;
        three = λ wait now h. one_told e past (λ b. (three_after n b chain).third)
            (λ b. (three_after n b chain).second ∷ (three_after n b chain).first ∷ []) refl
            (calm e past && is_past 1000 times.second e.moment) times.third wait now
            (λ r. tells.yes e past (parts (calm e past) (is_past 1000 times.second e.moment) r).0)
            (λ r. before.two 1000 e.moment (parts (calm e past) (is_past 1000 times.second e.moment) r).1)
            (before.three wait now) (contests site addr e) refl h;
      }

  -- ---- the fourth turn

  abbrev ready : Entry → List Entry → Bool
  ready e past = is_past 2000 (times_in calm site addr past).third e.moment

  abbrev three_in : List Entry → ThreeProbes
  three_in past = (chain_in calm site addr past).three

  found_by : (e : Entry) (past : List Entry) (turns : ProbedTurns)
      → ((before : ProbedTurns) → probed_turns_in calm site addr past ≡ Some before → ProbedIn C Anything site addr before past)
      → (c : Bool) → calm e past ≡ c → (f : Option ProbedTurns) → probed_turns_in calm site addr past ≡ f → (r : Bool) → ready e past ≡ r
      → fourth_after (length past) c r (three_in past) f ≡ Some turns → ProbedIn C Anything site addr turns (e ∷ past)
  found_by e past turns earlier false c f is r h found = absurd cc
  found_by e past turns earlier true c (Some before) is r h found =
      let one : before ≡ turns = one_of before turns found in
      inr (tells.yes e past c, subst (λ (t : ProbedTurns). ProbedIn C Anything site addr t past) one (earlier before is))
  found_by e past turns earlier true c None is true h found =
      let t : ProbedTurns = record { probes = three_in past; fourth = length past } in let one : t ≡ turns = one_of t turns found in
      subst (λ (t : ProbedTurns). ProbedIn C Anything site addr t (e ∷ past)) one (inl (refl, (tells.yes e past c, (told past).three 2000 e.moment h)))
  found_by e past turns earlier true c None is false h found = absurd cc

  pub found : (past : List Entry) (turns : ProbedTurns) → probed_turns_in calm site addr past ≡ Some turns → ProbedIn C Anything site addr turns past
  found [] turns h = absurd cc
  found (e ∷ past) turns h =
      found_by e past turns (λ before is. found past before is) (calm e past) refl (probed_turns_in calm site addr past) refl (ready e past) refl h

  as_some : (n : ℕ) (c r : Bool) (three : ThreeProbes) (f : Option ProbedTurns) → is_some (fourth_after n c r three f) ≡ (c && (r || is_some f))
  as_some n false r three f = refl
  as_some n true true three None = refl
  as_some n true false three None = refl
  as_some n true true three (Some turns) = refl
  as_some n true false three (Some turns) = refl

  -- they are found where the address is probed
  pub all_found : (past : List Entry) → is_some (probed_turns_in calm site addr past) ≡ probed_in calm site addr past
  all_found [] = refl
  all_found (e ∷ past) =
      as_some (length past) (calm e past) (ready e past) (three_in past) (probed_turns_in calm site addr past)
      ∙ ap (λ (b : Bool). calm e past && (ready e past || b)) (all_found past)
