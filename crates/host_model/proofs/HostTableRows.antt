-- Lists in row order: those with the same rows are equal; what one row more, one row less or a filter makes of the rows.
use Rattle.std.proofs.Common.{◌≡◌, Bool, true, false, cond, not, ◌||◌, ◌&&◌, List, [], ◌∷◌, ◌++◌, refl, sym, ap, ◌∙◌, ⊎_elim}
use Rattle.std.specs.Prelude.{filter}
use Rattle.std.specs.List.{list_any, AllByRecursion}
use Rattle.std.specs.List.Sorted.{IsStrictlySortedBy}
use Rattle.std.specs.declared.cmp.Ordering.{Ordering}
use Rattle.std.specs.declared.cmp.Ordering.TheVariants.{Less, Equal, Greater}
use Rattle.std.specs.Ordering.{ordering_reverse, match_ordering, is_eq}
use Rattle.std.specs.Cmp.{IsTotalOrder, Equal-is, alike_right, tied_itself}
use Rattle.std.specs.BTreeSet.{insert_key}
use Rattle.std.specs.BTreeMap.{is_at}
use Rattle.std.specs.Set.{remove_key}
use Rattle.std.proofs.lemmas.Bool.{false≢true, or_from, or_left, cases_Bool, cond_both}
use Rattle.std.proofs.lemmas.List.Elements.{All-from_recursion, recursion_from_All}
use Rattle.std.proofs.lemmas.List.Folds.{list_any-append}
use Rattle.std.proofs.lemmas.List.Kept.{IsStrictlySortedBy-filter}
use Rattle.std.proofs.lemmas.Map.Keys.{sorted_head, sorted_tail}
use Rattle.std.proofs.lemmas.Map.Views.{All-insert_key, All-remove_key, any-filter_same}
use Rattle.world.specs.declared.rows.HostRow.{HostRow}
use Rattle.world.specs.RowOrder.{row_cmp, row_cmp_total, has_row, with_row, without_row, put_in_order, in_row_order}
use Rattle.world.proofs.ExactRows.{row_cmp_exact}
use Rattle.world.proofs.RowLists.{in_order_stays, in_order_has, put_in_order_more}
use Rattle.host_model.specs.HostTable.{InRowOrder}

each : {K : Type 0} {P Q : K → Type 0} → ((y : K) → P y → Q y) → (ks : List K) → AllByRecursion P ks → AllByRecursion Q ks
each f [] h = tt
each f (x ∷ xs) h = (f x h.0, each f xs h.1)

-- ---- any total order

module _ {K : Type 0} {R : K → K → Ordering} (o : IsTotalOrder R) where
  none_below : (q : K) (ks : List K) → AllByRecursion (λ y. R q y ≡ Less) ks → list_any (is_at (R q)) ks ≡ false
  none_below q [] h = refl
  none_below q (x ∷ xs) h = or_from (is_eq (R q x)) (list_any (is_at (R q)) xs) (ap is_eq h.0) (none_below q xs h.1)

  -- a key below the first isn't there
  none_before : (q x : K) (xs : List K) → IsStrictlySortedBy R (x ∷ xs) → R q x ≡ Less → list_any (is_at (R q)) (x ∷ xs) ≡ false
  none_before q x xs s l =
      or_from (is_eq (R q x)) (list_any (is_at (R q)) xs) (ap is_eq l) (none_below q xs (each (λ y m. o.trans q x y l m) xs (sorted_head R x xs s)))

  -- the first key isn't there again
  none_again : (q x : K) (xs : List K) → IsStrictlySortedBy R (x ∷ xs) → R q x ≡ Equal → list_any (is_at (R q)) xs ≡ false
  none_again q x xs s e = none_below q xs (each (λ y m. o.congr q x y e ∙ m) xs (sorted_head R x xs s))

  has_first : (x : K) (xs : List K) → list_any (is_at (R x)) (x ∷ xs) ≡ true
  has_first x xs = or_left (is_eq (R x x)) (list_any (is_at (R x)) xs) (ap is_eq (tied_itself o x))

  module _ (x y : K) (xs ys : List K) (s : IsStrictlySortedBy R (x ∷ xs)) (t : IsStrictlySortedBy R (y ∷ ys))
      (h : (q : K) → list_any (is_at (R q)) (x ∷ xs) ≡ list_any (is_at (R q)) (y ∷ ys)) where
    same_first : (r : Ordering) → R x y ≡ r → R x y ≡ Equal
    same_first Less e = absurd (false≢true (sym (none_before x y ys t e) ∙ sym (h x) ∙ has_first x xs))
    same_first Equal e = e
    same_first Greater e = absurd (false≢true (sym (none_before y x xs s (o.antisymm y x ∙ ap ordering_reverse e)) ∙ h y ∙ has_first y ys))

    same_later : R x y ≡ Equal → (q : K) → list_any (is_at (R q)) xs ≡ list_any (is_at (R q)) ys
    same_later e q =
        let alike : R q x ≡ R q y = alike_right o x y q e in
        ⊎_elim
        (λ here. let at_x : R q x ≡ Equal = (Equal-is (R q x)).0 here in none_again q x xs s at_x ∙ sym (none_again q y ys t (sym alike ∙ at_x)))
        (λ there. sym (ap (λ b. b || list_any (is_at (R q)) xs) there) ∙ h q ∙ ap (λ b. b || list_any (is_at (R q)) ys) (ap is_eq (sym alike) ∙ there))
        (cases_Bool (is_eq (R q x)))

  same_keys : ((a b : K) → R a b ≡ Equal → a ≡ b) → (xs ys : List K) → IsStrictlySortedBy R xs → IsStrictlySortedBy R ys
      → ((q : K) → list_any (is_at (R q)) xs ≡ list_any (is_at (R q)) ys) → xs ≡ ys
  same_keys exact [] [] s t h = refl
  same_keys exact [] (y ∷ ys) s t h = absurd (false≢true (h y ∙ has_first y ys))
  same_keys exact (x ∷ xs) [] s t h = absurd (false≢true (sym (h x) ∙ has_first x xs))
  same_keys exact (x ∷ xs) (y ∷ ys) s t h =
      let e = same_first x y xs ys s t h (R x y) refl in
      let later = same_keys exact xs ys (sorted_tail R x xs s) (sorted_tail R y ys t) (same_later x y xs ys s t h e) in
      λ i. exact x y e i ∷ later i

  all_with : (P : K → Type 0) (k : K) (ks : List K) → AllByRecursion P ks → P k → AllByRecursion P (insert_key R ks k)
  all_with P k ks h p = recursion_from_All P (insert_key R ks k) (All-insert_key R k P ks (All-from_recursion P ks h) p)

  all_without : (P : K → Type 0) (test : K → Bool) (ks : List K) → AllByRecursion P ks → AllByRecursion P (remove_key test ks)
  all_without P test ks h = recursion_from_All P (remove_key test ks) (All-remove_key test P ks (All-from_recursion P ks h))

  sorted_by : (k x : K) (xs ys : List K) (r : Ordering) → R k x ≡ r → IsStrictlySortedBy R (x ∷ xs) → (R x k ≡ Less → AllByRecursion (λ y. R x y ≡ Less) ys)
      → IsStrictlySortedBy R ys
      → IsStrictlySortedBy R (match_ordering r (k ∷ x ∷ xs) (x ∷ xs) (x ∷ ys))
  unfolding IsStrictlySortedBy
  sorted_by k x xs ys Less e s above t = ((e, each (λ y m. o.trans k x y e m) xs s.0), s)
  sorted_by k x xs ys Equal e s above t = s
  sorted_by k x xs ys Greater e s above t = (above (o.antisymm x k ∙ ap ordering_reverse e), t)

  sorted_with : (k : K) (ks : List K) → IsStrictlySortedBy R ks → IsStrictlySortedBy R (insert_key R ks k)
  unfolding IsStrictlySortedBy
  sorted_with k [] s = (tt, tt)
  sorted_with k (x ∷ xs) s =
      sorted_by k x xs (insert_key R xs k) (R k x) refl s (λ l. all_with (λ y. R x y ≡ Less) k xs s.0 l) (sorted_with k xs s.1)

  sorted_without : (test : K → Bool) (ks : List K) → IsStrictlySortedBy R ks → IsStrictlySortedBy R (remove_key test ks)
  unfolding IsStrictlySortedBy
  sorted_without test [] s = s
  sorted_without test (x ∷ xs) s =
      cond_both (test x) xs (x ∷ remove_key test xs) (IsStrictlySortedBy R) (λ _. s.1)
      (λ _. (all_without (λ y. R x y ≡ Less) test xs s.0, sorted_without test xs s.1))

  -- whether a list has q, once k is removed in front of xs, where e is whether q is k, and b whether q is the first
  removed_by : (q k x : K) (xs ys : List K) → IsStrictlySortedBy R (x ∷ xs) → (r : Bool) → is_eq (R k x) ≡ r
      → list_any (is_at (R q)) ys ≡ (not (is_eq (R q k)) && list_any (is_at (R q)) xs)
      → list_any (is_at (R q)) (cond r xs (x ∷ ys)) ≡ (not (is_eq (R q k)) && (is_eq (R q x) || list_any (is_at (R q)) xs))
  removed_by q k x xs ys s true e h =
      ⊎_elim
      (λ here. none_again q x xs s (sym alike ∙ (Equal-is (R q k)).0 here) ∙ sym (ap (λ b. not b && (is_eq (R q x) || list_any (is_at (R q)) xs)) here))
      (λ there. sym
      (ap (λ b. not b && (is_eq (R q x) || list_any (is_at (R q)) xs)) there ∙ ap (λ b. b || list_any (is_at (R q)) xs) (ap is_eq (sym alike) ∙ there)))
      (cases_Bool (is_eq (R q k)))
    where
      alike : R q k ≡ R q x
      alike = alike_right o k x q ((Equal-is (R k x)).0 e)
  removed_by q k x xs ys s false e h =
      ap (λ b. is_eq (R q x) || b) h
      ∙ apart (is_eq (R q x)) (is_eq (R q k)) (list_any (is_at (R q)) xs) (λ here. ap is_eq (o.congr q k x ((Equal-is (R q k)).0 here)) ∙ e)
    where
      apart : (b e c : Bool) → (e ≡ true → b ≡ false) → (b || (not e && c)) ≡ (not e && (b || c))
      apart true true c other = absurd (false≢true (sym (other refl)))
      apart false true c other = refl
      apart true false c other = refl
      apart false false c other = refl

  has_removed : (q k : K) (ks : List K) → IsStrictlySortedBy R ks
      → list_any (is_at (R q)) (remove_key (is_at (R k)) ks) ≡ (not (is_eq (R q k)) && list_any (is_at (R q)) ks)
  has_removed q k [] s = no_more (not (is_eq (R q k)))
    where
      no_more : (b : Bool) → false ≡ (b && false)
      no_more true = refl
      no_more false = refl
  has_removed q k (x ∷ xs) s =
      removed_by q k x xs (remove_key (is_at (R k)) xs) s (is_eq (R k x)) refl (has_removed q k xs (sorted_tail R x xs s))

-- ---- rows

pub same_rows : (xs ys : List HostRow) → InRowOrder xs → InRowOrder ys → ((q : HostRow) → has_row xs q ≡ has_row ys q) → xs ≡ ys
same_rows = same_keys row_cmp_total row_cmp_exact

pub with_in_order : (row : HostRow) (rows : List HostRow) → InRowOrder rows → InRowOrder (with_row row rows)
with_in_order = sorted_with row_cmp_total

pub without_in_order : (row : HostRow) (rows : List HostRow) → InRowOrder rows → InRowOrder (without_row row rows)
without_in_order row = sorted_without row_cmp_total (is_at (row_cmp row))

pub filter_in_order : (p : HostRow → Bool) (rows : List HostRow) → InRowOrder rows → InRowOrder (filter p rows)
filter_in_order = IsStrictlySortedBy-filter row_cmp

put_sorted : (sorted rows : List HostRow) → InRowOrder sorted → InRowOrder (put_in_order sorted rows)
put_sorted sorted [] s = s
put_sorted sorted (row ∷ rows) s = put_sorted (with_row row sorted) rows (with_in_order row sorted s)

empty_in_order : InRowOrder []
unfolding IsStrictlySortedBy
empty_in_order = tt

-- rows that were put in order are in order, each once
pub in_order_sorted : (rows : List HostRow) → InRowOrder (in_row_order rows)
in_order_sorted rows = put_sorted [] rows empty_in_order

pub has_with : (row : HostRow) (rows : List HostRow) → InRowOrder rows → (q : HostRow)
    → has_row (with_row row rows) q ≡ (has_row rows q || is_eq (row_cmp q row))
has_with row rows s q =
    ap (λ xs. has_row (with_row row xs) q) (sym (in_order_stays rows s))
    ∙ ap (λ xs. has_row xs q) (sym (put_in_order_more [] rows row))
    ∙ in_order_has (rows ++ row ∷ []) q
    ∙ list_any-append (is_at (row_cmp q)) rows (row ∷ [])
    ∙ ap (λ b. has_row rows q || b) (or_none (is_eq (row_cmp q row)))
  where
    or_none : (b : Bool) → (b || false) ≡ b
    or_none true = refl
    or_none false = refl

pub has_without : (row : HostRow) (rows : List HostRow) → InRowOrder rows → (q : HostRow)
    → has_row (without_row row rows) q ≡ (not (is_eq (row_cmp q row)) && has_row rows q)
has_without row rows s q = has_removed row_cmp_total q row rows s

pub same_answer : (p : HostRow → Bool) (q row : HostRow) → is_eq (row_cmp q row) ≡ true → p q ≡ p row
same_answer p q row e = ap p (row_cmp_exact q row ((Equal-is (row_cmp q row)).0 e))

pub has_filter : (p : HostRow → Bool) (rows : List HostRow) (q : HostRow) → has_row (filter p rows) q ≡ (p q && has_row rows q)
has_filter p rows q = any-filter_same (is_at (row_cmp q)) p (p q) (λ row e. sym (same_answer p q row e)) rows
