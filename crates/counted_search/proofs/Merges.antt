-- Two lists of keys in order, gone through at once.
use Rattle.std.proofs.Common.{◌≡◌, ℕ, zero, suc, ◌+◌, ◌<◌, ◌≤◌, Bool, true, false, cond, not, ◌||◌, List, [], ◌∷◌, ◌++◌, length, get_or, take, drop, append-nil, drop-cons, add-one, refl, sym, ap, subst, ◌∙◌}
use Rattle.std.specs.Prelude.{filter}
use Rattle.std.specs.List.{AllByRecursion}
use Rattle.std.specs.List.Sorted.{IsStrictlySortedBy}
use Rattle.std.specs.declared.cmp.Ordering.{Ordering}
use Rattle.std.specs.declared.cmp.Ordering.TheVariants.{Less, Equal, Greater}
use Rattle.std.specs.Ordering.{eq_by_cmp, is_eq, is_gt, ordering_reverse}
use Rattle.std.specs.BTreeMap.Range.{IsLeBy}
use Rattle.std.specs.Cmp.{IsTotalOrder, Equal-is, alike_right, tied_itself}
use Rattle.std.proofs.lemmas.Bool.{false≢true}
use Rattle.std.proofs.lemmas.List.{drop_all, take_all}
use Rattle.std.proofs.lemmas.List.Elements.{filter_more}
use Rattle.std.proofs.lemmas.Map.Keys.{sorted_head, sorted_tail}
use Rattle.counted_search.specs.Ordered.{has_key}
use Rattle.counted_search.proofs.Edits.{none_from}

module _ {K : Type 0} {R : K → K → Ordering} (o : IsTotalOrder R) where
  drop_is : (ys : List K) (j : ℕ) (y : K) → j < length ys → y ≡ get_or ys j y → drop j ys ≡ y ∷ drop (j + 1) ys
  drop_is ys j y within at =
      drop-cons ys j y within ∙ ap (λ (x : K). x ∷ drop (suc j) ys) (sym at) ∙ ap (λ (n : ℕ). y ∷ drop n ys) (sym (add-one j))

  sorted_drop : (j : ℕ) (ys : List K) → IsStrictlySortedBy R ys → IsStrictlySortedBy R (drop j ys)
  sorted_drop zero ys s = s
  sorted_drop (suc j) [] s = s
  sorted_drop (suc j) (y ∷ ys) s = sorted_drop j ys (sorted_tail R y ys s)

  sorted_there : (ys : List K) (j : ℕ) (y : K) → IsStrictlySortedBy R ys → j < length ys → y ≡ get_or ys j y → IsStrictlySortedBy R (y ∷ drop (j + 1) ys)
  sorted_there ys j y s within at = subst (IsStrictlySortedBy R) (drop_is ys j y within at) (sorted_drop j ys s)

  -- what is below a key is none that isn't
  no_tie : (y k q : K) → R y k ≡ Less → IsLeBy R k q → (b : Bool) → eq_by_cmp R q y ≡ b → b ≡ false
  no_tie y k q below from false e = refl
  no_tie y k q below from true e =
      let less : R q k ≡ Less = o.congr q y k ((Equal-is (R q y)).0 e) ∙ below in
      absurd (false≢true (sym from ∙ ap is_gt (o.antisymm k q ∙ ap ordering_reverse less)))

  -- ---- one key among others from a place on

  pub one_passed : (ys : List K) (j : ℕ) (y k : K) → j < length ys → y ≡ get_or ys j y → R y k ≡ Less
      → (q : K) → IsLeBy R k q → has_key R (drop j ys) q ≡ has_key R (drop (j + 1) ys) q
  one_passed ys j y k within at below q from =
      ap (λ (l : List K). has_key R l q) (drop_is ys j y within at)
      ∙ ap (λ b. b || has_key R (drop (j + 1) ys) q) (no_tie y k q below from (eq_by_cmp R q y) refl)

  pub is_here : (ys : List K) (j : ℕ) (y k : K) → j < length ys → y ≡ get_or ys j y → R y k ≡ Equal → has_key R (drop j ys) k ≡ true
  is_here ys j y k within at tied =
      ap (λ (l : List K). has_key R l k) (drop_is ys j y within at)
      ∙ ap (λ r. is_eq r || has_key R (drop (j + 1) ys) k) (o.antisymm k y ∙ ap ordering_reverse tied)

  pub is_not_here : (ys : List K) (j : ℕ) (y k : K) → IsStrictlySortedBy R ys → j < length ys → y ≡ get_or ys j y → R y k ≡ Greater
      → has_key R (drop j ys) k ≡ false
  is_not_here ys j y k s within at above =
      ap (λ (l : List K). has_key R l k) (drop_is ys j y within at)
      ∙ none_from o k y (drop (j + 1) ys) (sorted_there ys j y s within at) (o.antisymm k y ∙ ap ordering_reverse above)

  pub none_left : (ys : List K) (j : ℕ) (k : K) → length ys ≤ j → has_key R (drop j ys) k ≡ false
  none_left ys j k past = ap (λ (l : List K). has_key R l k) (drop_all j ys past)

  -- ---- the keys that others lack

  abbrev pub lacks : List K → K → Bool
  lacks others key = not (has_key R others key)

  -- of the keys so far those are found that others lack; what is left of the others tells whether they have a key that is left
  pub record Merged (keys others found : List K) (i j : ℕ) : Type 0 where
    pub lacking : found ≡ filter (lacks others) (take i keys)
    pub left : (q : K) → has_key R (drop i keys) q ≡ true → has_key R others q ≡ has_key R (drop j others) q

  pub merged_none : (keys others found : List K) → found ≡ [] → Merged keys others found 0 0
  merged_none keys others found none = record { lacking = none; left = λ q has. refl }

  or_has : (a b : Bool) → b ≡ true → (a || b) ≡ true
  or_has true b e = refl
  or_has false b e = e

  -- what stands behind a key isn't below it
  from_later : (k q : K) (xs : List K) → AllByRecursion (λ y. R k y ≡ Less) xs → has_key R xs q ≡ true → IsLeBy R k q
  from_later k q [] above has = absurd (false≢true has)
  from_later k q (x ∷ xs) above has = by (eq_by_cmp R q x) refl (from_later k q xs above.1)
    where
      by : (b : Bool) → eq_by_cmp R q x ≡ b → (has_key R xs q ≡ true → IsLeBy R k q) → IsLeBy R k q
      by true e later = ap is_gt (alike_right o q x k ((Equal-is (R q x)).0 e) ∙ above.0)
      by false e later = later (sym (ap (λ b. b || has_key R xs q) e) ∙ has)

  module _ (keys others found : List K) (i j : ℕ) (k : K) (sorted : IsStrictlySortedBy R keys) (within : i < length keys) (at : k ≡ get_or keys i k)
      (so_far : Merged keys others found i j) (n : ℕ)
      (passed : (q : K) → IsLeBy R k q → has_key R (drop j others) q ≡ has_key R (drop n others) q) where
    has_it : has_key R others k ≡ has_key R (drop j others) k
    has_it =
        so_far.left k (ap (λ (l : List K). has_key R l k) (drop_is keys i k within at) ∙ ap (λ r. is_eq r || has_key R (drop (i + 1) keys) k) (tied_itself o k))

    still_left : (q : K) → has_key R (drop (i + 1) keys) q ≡ true → has_key R others q ≡ has_key R (drop n others) q
    still_left q has =
        so_far.left q (ap (λ (l : List K). has_key R l q) (drop_is keys i k within at) ∙ or_has (eq_by_cmp R q k) (has_key R (drop (i + 1) keys) q) has)
        ∙ passed q (from_later k q (drop (i + 1) keys) (sorted_head R k (drop (i + 1) keys) (sorted_there keys i k sorted within at)) has)

    more_found : (b : Bool) → has_key R (drop j others) k ≡ b
        → filter (lacks others) (take (i + 1) keys) ≡ filter (lacks others) (take i keys) ++ cond (not b) (k ∷ []) []
    more_found b e =
        filter_more (lacks others) keys i k within
        ∙ ap (λ (x : K). filter (lacks others) (take i keys) ++ cond (lacks others x) (x ∷ []) []) (sym at)
        ∙ ap (λ (h : Bool). filter (lacks others) (take i keys) ++ cond (not h) (k ∷ []) []) (has_it ∙ e)

    pub merged_there : has_key R (drop j others) k ≡ true → Merged keys others found (i + 1) n
    merged_there e = record { lacking = so_far.lacking ∙ sym (more_found true e ∙ append-nil (filter (lacks others) (take i keys))); left = still_left }

    pub merged_lacked : (new : List K) → has_key R (drop j others) k ≡ false → new ≡ found ++ k ∷ [] → Merged keys others new (i + 1) n
    merged_lacked new e more =
        record { lacking = more ∙ ap (λ (l : List K). l ++ k ∷ []) so_far.lacking ∙ sym (more_found false e); left = still_left }

  pub all_merged : (keys others found : List K) (i j : ℕ) → length keys ≤ i → Merged keys others found i j → found ≡ filter (lacks others) keys
  all_merged keys others found i j past merged = merged.lacking ∙ ap (filter (lacks others)) (take_all i keys past)
