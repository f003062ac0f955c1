-- The first of keys in order that isn't below another one.
use Rattle.std.proofs.Common.{◌≡◌, ℕ, ◌<◌, ◌≤◌, Bool, true, false, List, length, get_or, HoldsAt, refl, sym, ap, subst, ◌∙◌, ⊎_elim, arith}
use Rattle.std.specs.List.Sorted.{IsStrictlySortedBy, IsPartitionPoint}
use Rattle.std.specs.declared.cmp.Ordering.{Ordering}
use Rattle.std.specs.declared.cmp.Ordering.TheVariants.{Less, Equal, Greater}
use Rattle.std.specs.Ordering.{eq_by_cmp, is_lt, is_gt, ordering_index, ordering_reverse}
use Rattle.std.specs.BTreeMap.Range.{IsLeBy}
use Rattle.std.specs.Cmp.{IsTotalOrder, Equal-is, alike_right, tied_itself}
use Rattle.std.proofs.lemmas.Bool.{cases_lt, false≢true}
use Rattle.std.proofs.lemmas.List.Folds.{Any-from_list_any}
use Rattle.std.proofs.lemmas.Map.Keys.{Less-from_sorted}
use Rattle.std.specs.Prelude.{Option, None, Some, IfNone, IfSome, MatchOption}
use Rattle.counted_search.specs.Ordered.{has_key, BeginsAt, IsAboveAll, IsFirstFrom}
use Rattle.counted_search.proofs.Halving.{Rises}
use Rattle.counted_search.proofs.Edits.{rises_from_sorted, there}

no_less : (r : Ordering) → 1 ≤ ordering_index r → is_lt r ≡ false
no_less Less h = absurd (omega arith)
no_less Equal h = refl
no_less Greater h = refl

greater_not_less : (r : Ordering) → r ≡ Greater → is_lt r ≡ false
greater_not_less r e = ap is_lt e

turned : (r : Ordering) → is_lt r ≡ false → is_gt (ordering_reverse r) ≡ false
turned Less h = let never : true ≡ false = h in cc
turned Equal h = refl
turned Greater h = refl

module _ {K : Type 0} {R : K → K → Ordering} (o : IsTotalOrder R) (k : K) (ys : List K) (s : IsStrictlySortedBy R ys) where
  pub begins_there : (i : ℕ) → i < length ys → HoldsAt (λ y. R y k ≡ Equal) ys i → BeginsAt R ys k i
  begins_there i within here = (
    λ j d a b. sym (alike_right o (get_or ys i d) k (get_or ys j d) (here d)) ∙ Less-from_sorted R ys j i d s b within,
    λ j d a b. no_less (R (get_or ys j d) k)
        (subst (λ (r : Ordering). ordering_index r ≤ ordering_index (R (get_or ys j d) k)) (here d) (rises_from_sorted o k ys s i j d a b)),
  )

  pub begins_missing : (i : ℕ) → (Rises (λ y. R y k) ys → IsPartitionPoint (λ y. R y k ≡ Less) (λ y. R y k ≡ Greater) ys i) → BeginsAt R ys k i
  begins_missing i p = let point = p (rises_from_sorted o k ys s) in (point.0, λ j d a b. greater_not_less _ (point.1 j d a b))

  -- what isn't below k is none of those below it
  pub apart : (y q : K) → R y k ≡ Less → IsLeBy R k q → eq_by_cmp R q y ≡ true → false ≡ true
  apart y q below from same =
      let less : R q k ≡ Less = o.congr q y k ((Equal-is (R q y)).0 same) ∙ below in
      sym from ∙ ap is_gt (o.antisymm k q ∙ ap ordering_reverse less)

  pub above_all : (i : ℕ) → BeginsAt R ys k i → length ys ≤ i → IsAboveAll R ys k
  above_all i begins past q from = by (has_key R ys q) refl
    where
      by : (b : Bool) → has_key R ys q ≡ b → b ≡ false
      by false e = refl
      by true e =
          let found = Any-from_list_any (eq_by_cmp R q) ys e in let j = found.0 in let y = found.1 in
          absurd (false≢true (apart y q (subst (λ (x : K). R x k ≡ Less) found.3 (begins.0 j y (omega arith) (omega (arith, found.2)))) from found.4))

  module _ (i : ℕ) (first : K) (begins : BeginsAt R ys k i) (within : i < length ys) (at : HoldsAt (λ y. first ≡ y) ys i) where
    later_least : (q y : K) → eq_by_cmp R q y ≡ true → R first y ≡ Less → is_gt (R first q) ≡ false
    later_least q y same less = ap is_gt (alike_right o q y first ((Equal-is (R q y)).0 same) ∙ less)

    same_least : (q : K) → eq_by_cmp R q first ≡ true → is_gt (R first q) ≡ false
    same_least q same = ap is_gt (o.antisymm first q ∙ ap ordering_reverse ((Equal-is (R q first)).0 same))

    is_least : (q : K) → IsLeBy R k q → has_key R ys q ≡ true → IsLeBy R first q
    is_least q from has =
        let found = Any-from_list_any (eq_by_cmp R q) ys has in let j = found.0 in let y = found.1 in
        ⊎_elim
        (λ lt. absurd (false≢true (apart y q (subst (λ (x : K). R x k ≡ Less) found.3 (begins.0 j y (omega arith) lt)) from found.4)))
        (λ ge. ⊎_elim
        (λ later. later_least q y found.4
        (subst (λ (x : K). R x y ≡ Less) (sym (at y))
        (subst (λ (x : K). R (get_or ys i y) x ≡ Less) found.3 (Less-from_sorted R ys i j y s later found.2))))
        (λ same. let one : i ≡ j = omega arith in
        same_least q (subst (λ (x : K). eq_by_cmp R q x ≡ true) (sym found.3 ∙ ap (λ (n : ℕ). get_or ys n y) (sym one) ∙ sym (at y)) found.4))
        (cases_lt i j))
        (cases_lt j i)

    pub first_is : IsFirstFrom R ys k first
    first_is = record {
      from =
          subst (λ (r : Ordering). is_gt r ≡ false) (sym (o.antisymm k first))
          (turned (R first k) (subst (λ (x : K). is_lt (R x k) ≡ false) (sym (at first)) (begins.1 i first (omega arith) within)));
      there = there o first ys i within (λ d. ap (λ (x : K). R x first) (sym (at d)) ∙ tied_itself o first);
      least = is_least;
    }

  -- what reading the place gives
  pub none_read : {X : Type 0} (now : X → K) (i : ℕ) (read : Option X) → BeginsAt R ys k i
      → MatchOption read (length ys ≤ i) (λ x. (i < length ys) × HoldsAt (λ y. now x ≡ y) ys i) → IfNone read (IsAboveAll R ys k)
  none_read now i None begins past = above_all i begins past
  none_read now i (Some x) begins there = tt

  pub first_read : {X : Type 0} (now : X → K) (i : ℕ) (read : Option X) → BeginsAt R ys k i
      → MatchOption read (length ys ≤ i) (λ x. (i < length ys) × HoldsAt (λ y. now x ≡ y) ys i) → IfSome read (λ x. IsFirstFrom R ys k (now x))
  first_read now i None begins past = tt
  first_read now i (Some x) begins there = first_is i (now x) begins there.0 there.1
