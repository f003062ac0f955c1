-- Shares in the order of their SLA ids: where each two neighbours can stand in one line, all can.
use Rattle.std.proofs.Common.{◌≡◌, ◌≢◌, ℕ, ◌+◌, ◌-◌, ◌<◌, ◌≤◌, zero, suc, Bool, true, false, not, List, [], ◌∷◌, length, get_or, refl, sym, ap, subst, ◌∙◌, arith, eqb}
use Rattle.std.specs.Prelude.{All, AllPairs, IsTrue}
use Rattle.std.specs.List.{IsDistinct}
use Rattle.std.specs.List.Sorted.{IsNonDecreasingBy, IsPermutation}
use Rattle.std.proofs.lemmas.Bool.{and_parts, and_from, eq-eqb, eqb-true, eqb-false, not-true, not-false, not_from_true, not_from_false, ne_eqb}
use Rattle.std.proofs.lemmas.Map.Keys.{IsDistinct-IsPermutation, IsDistinct-from_apart, apart_from_distinct}
use Rattle.std.proofs.lemmas.List.Sorted.{All-permutation, IsPermutation-sym}
use Rattle.std.proofs.lemmas.List.{get_or_default}
use Rattle.prefix_share.specs.declared.share.Share.{Share}
use Rattle.prefix_share.specs.Subnets.{has_room}
use Rattle.prefix_share.specs.Rules.{go_together, is_plan}
use Rattle.prefix_share.specs.PlanLaws.{ObeyRules}
use Rattle.prefix_share.proofs.Pairs.{plans_obey}

same_bool : (a b : Bool) → (a ≡ true → b ≡ true) → (b ≡ true → a ≡ true) → a ≡ b
same_bool true b there back = sym (there refl)
same_bool false true there back = back refl
same_bool false false there back = refl

-- ---- in any order

abbrev clash : Share → Share → Bool
clash one other = not (go_together one other)

together : (one other : Share) → one.len ≡ other.len → one.sla ≢ other.sla → go_together one other ≡ true
together one other same unlike = and_from _ _ (eq-eqb _ _ same) (not_from_false _ (ne_eqb _ _ unlike))

apart : (one other : Share) → go_together one other ≡ true → (one.len ≡ other.len) × (one.sla ≢ other.sla)
apart one other fits =
    let both = and_parts _ _ fits in
    (eqb-true _ _ both.0, eqb-false _ _ (not-true _ both.1))

turned : (one other : Share) → go_together one other ≡ true → go_together other one ≡ true
turned one other fits =
    let both = apart one other fits in
    together other one (sym both.0) (λ e. both.1 (sym e))

flips : (one other : Share) → clash one other ≡ clash other one
flips one other = ap not (same_bool (go_together one other) (go_together other one) (turned one other) (turned other one))

distinct_of : (shares : List Share) → ObeyRules shares → IsDistinct clash shares
distinct_of shares obeys =
    IsDistinct-from_apart clash shares
    (λ i j d below inside. not_from_true _
    (together (get_or shares i d) (get_or shares j d) (obeys.one_length i j d below inside) (obeys.unlike i j d below inside)))

obeys_of : (shares : List Share) → IsDistinct clash shares → All (λ share. IsTrue (has_room share.hint share)) shares → ObeyRules shares
obeys_of shares distinct room = record {
  one_length =
      λ i j d below inside. (apart (get_or shares i d) (get_or shares j d) (not-false _ (apart_from_distinct clash shares i j d distinct below inside))).0;
  unlike = λ i j d below inside. (apart (get_or shares i d) (get_or shares j d) (not-false _ (apart_from_distinct clash shares i j d distinct below inside))).1;
  room = room;
}

moved : (shares others : List Share) → IsPermutation shares others → is_plan shares ≡ true → is_plan others ≡ true
moved shares others permutation plan =
    let obeys = (plans_obey shares).0 plan in
    (plans_obey others).1
    (obeys_of others (IsDistinct-IsPermutation clash flips shares others permutation (distinct_of shares obeys))
    (All-permutation (λ share. IsTrue (has_room share.hint share)) shares others permutation obeys.room))

pub same_plan : (shares others : List Share) → IsPermutation shares others → is_plan shares ≡ is_plan others
same_plan shares others permutation =
    same_bool (is_plan shares) (is_plan others) (moved shares others permutation) (moved others shares (IsPermutation-sym shares others permutation))

-- ---- neighbours

abbrev pub pair : List Share → Share → ℕ → ℕ → List Share
pair shares d i j = get_or shares i d ∷ get_or shares j d ∷ []

-- the neighbours up to a place
abbrev pub NeighboursFit : List Share → ℕ → Type 0
NeighboursFit shares place = (i j : ℕ) (d : Share) → j ≡ i + 1 → j < place → is_plan (pair shares d i j) ≡ true

record PairFits (one other : Share) : Type 0 where
  same : one.len ≡ other.len
  unlike : one.sla ≢ other.sla
  room_one : has_room one.hint one ≡ true
  room_other : has_room other.hint other ≡ true

pair_fits : (one other : Share) → is_plan (one ∷ other ∷ []) ≡ true → PairFits one other
pair_fits one other plan =
    let obeys = (plans_obey (one ∷ other ∷ [])).0 plan in
    record {
      same = obeys.one_length 0 1 one (omega arith) (omega arith);
      unlike = obeys.unlike 0 1 one (omega arith) (omega arith);
      room_one = obeys.room 0 one (omega arith);
      room_other = obeys.room 1 one (omega arith);
    }

fits_pair : (one other : Share) → PairFits one other → is_plan (one ∷ other ∷ []) ≡ true
fits_pair one other fits =
    and_from _ _ (and_from _ _ fits.room_one (and_from _ _ (together one other fits.same fits.unlike) refl))
    (and_from _ _ (and_from _ _ fits.room_other refl) refl)

pub neighbours_of : (shares : List Share) → is_plan shares ≡ true → NeighboursFit shares (length shares)
neighbours_of shares plan = λ i j d next inside.
    let obeys = (plans_obey shares).0 plan in
    fits_pair (get_or shares i d) (get_or shares j d) (record {
      same = obeys.one_length i j d (omega (arith, next)) inside;
      unlike = obeys.unlike i j d (omega (arith, next)) inside;
      room_one = obeys.room i d (omega (arith, next, inside));
      room_other = obeys.room j d inside;
    })

lengths : (shares : List Share) → NeighboursFit shares (length shares) → (d : Share) (j : ℕ) → j < length shares
    → (get_or shares 0 d).len ≡ (get_or shares j d).len
lengths shares fit d zero inside = refl
lengths shares fit d (suc j) inside =
    lengths shares fit d j (omega (arith, inside)) ∙ (pair_fits (get_or shares j d) (get_or shares (suc j) d) (fit j (suc j) d (omega arith) inside)).same

unlike_ids : (shares : List Share) → IsNonDecreasingBy (λ share. share.sla) shares → NeighboursFit shares (length shares)
    → AllPairs (λ one other. one.sla ≢ other.sla) shares
unlike_ids shares rising fit = λ i j d below inside.
    let before : ℕ = j - 1 in
    let next : j ≡ before + 1 = omega (arith, below) in
    let low : i ≤ before = omega (arith, below) in
    let high : before ≤ j = omega arith in
    let within : before < length shares = omega (arith, below, inside) in
    let first = rising i before d low within in
    let second = rising before j d high inside in
    let unlike = (pair_fits (get_or shares before d) (get_or shares j d) (fit before j d next inside)).unlike in
    λ same. unlike (omega (arith, first, second, same))

rooms : (shares : List Share) → 2 ≤ length shares → NeighboursFit shares (length shares) → (k : ℕ) (d : Share) → k < length shares
    → has_room (get_or shares k d).hint (get_or shares k d) ≡ true
rooms shares some fit zero d inside = (pair_fits (get_or shares 0 d) (get_or shares 1 d) (fit 0 1 d (omega arith) (omega (arith, some)))).room_one
rooms shares some fit (suc k) d inside = (pair_fits (get_or shares k d) (get_or shares (suc k) d) (fit k (suc k) d (omega arith) inside)).room_other

pub plan_of_neighbours : (shares : List Share) → IsNonDecreasingBy (λ share. share.sla) shares → 2 ≤ length shares → NeighboursFit shares (length shares)
    → is_plan shares ≡ true
plan_of_neighbours shares rising some fit =
    (plans_obey shares).1 (record {
      one_length = λ i j d below inside. sym (lengths shares fit d i (omega (arith, below, inside))) ∙ lengths shares fit d j inside;
      unlike = unlike_ids shares rising fit;
      room = rooms shares some fit;
    })

-- ---- the walk over neighbours

here : (shares : List Share) (place j : ℕ) (d e : Share) → 1 ≤ place → place < length shares → j ≡ place → is_plan (pair shares d (place - 1) place) ≡ true
    → is_plan (pair shares e (j - 1) j) ≡ true
here shares place j d e some inside at fits =
    let before : get_or shares (place - 1) e ≡ get_or shares (place - 1) d = get_or_default shares (place - 1) e d (omega (arith, some, inside)) in
    let last : get_or shares place e ≡ get_or shares place d = get_or_default shares place e d inside in
    let moved : is_plan (pair shares e (place - 1) place) ≡ true =
    ap (λ one. is_plan (one ∷ get_or shares place e ∷ [])) before ∙ (ap (λ other. is_plan (get_or shares (place - 1) d ∷ other ∷ [])) last ∙ fits) in
    subst (λ k. is_plan (pair shares e (k - 1) k) ≡ true) (sym at) moved

pub one_more : (shares : List Share) (place : ℕ) (d : Share) → 1 ≤ place → place < length shares → NeighboursFit shares place
    → is_plan (pair shares d (place - 1) place) ≡ true → NeighboursFit shares (place + 1)
one_more shares place d some inside fit fits = λ i j e next below.
    let before : i ≡ j - 1 = omega (arith, next) in
    elim (eqb j place) as (λ b. eqb j place ≡ b → is_plan (pair shares e i j) ≡ true) [
      | true ↦ λ t. subst (λ k. is_plan (pair shares e k j) ≡ true) (sym before) (here shares place j d e some inside (eqb-true _ _ t) fits)
      | false ↦ λ t.
          let other : j ≢ place = eqb-false _ _ t in
          fit i j e next (omega (arith, below, other))
    ] refl

pub none_more : (shares : List Share) (place : ℕ) (d : Share) → 1 ≤ place → place < length shares → is_plan (pair shares d (place - 1) place) ≡ false
    → false ≡ is_plan shares
none_more shares place d some inside clashes =
    elim (is_plan shares) as (λ b. is_plan shares ≡ b → false ≡ b) [
      | true ↦ λ plan.
          let fits = neighbours_of shares plan (place - 1) place d (omega (arith, some)) inside in
          sym clashes ∙ fits
      | false ↦ λ plan. refl
    ] refl
