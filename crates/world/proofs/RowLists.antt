-- Laws of rows in row order.
use Rattle.std.proofs.Common.{◌≡◌, ℕ, Bool, true, false, ◌||◌, List, [], ◌∷◌, ◌++◌, refl, sym, ap, ◌∙◌, append_assoc, append-nil, ◌+◌, ◌<◌, length, get_or, take}
use Rattle.std.proofs.lemmas.List.{take_more}
use Rattle.std.specs.List.{list_any, AllByRecursion}
use Rattle.std.specs.List.Sorted.{IsStrictlySortedBy}
use Rattle.std.specs.declared.cmp.Ordering.{Ordering}
use Rattle.std.specs.declared.cmp.Ordering.TheVariants.{Less, Equal, Greater}
use Rattle.std.specs.Ordering.{ordering_reverse, match_ordering, is_eq}
use Rattle.std.specs.Cmp.{IsTotalOrder, alike_right}
use Rattle.std.specs.BTreeSet.{insert_key}
use Rattle.std.specs.BTreeMap.{is_at}
use Rattle.world.specs.declared.rows.HostRow.{HostRow}
use Rattle.world.specs.RowOrder.{row_cmp, row_cmp_total, has_row, with_row, put_in_order, in_row_order}

module _ {K : Type 0} {R : K → K → Ordering} (o : IsTotalOrder R) where
  -- a key above all others goes to the end
  insert_last : (ks : List K) (k : K) → AllByRecursion (λ x. R x k ≡ Less) ks → insert_key R ks k ≡ ks ++ k ∷ []
  insert_last [] k h = refl
  insert_last (x ∷ xs) k h =
      ap (λ r. match_ordering r (k ∷ x ∷ xs) (x ∷ xs) (x ∷ insert_key R xs k)) (o.antisymm k x ∙ ap ordering_reverse h.0)
      ∙ ap (λ ys. x ∷ ys) (insert_last xs k h.1)

  at_middle : (P : K → Type 0) (xs : List K) (y : K) (ys : List K) → AllByRecursion P (xs ++ y ∷ ys) → P y
  at_middle P [] y ys h = h.0
  at_middle P (x ∷ xs) y ys h = at_middle P xs y ys h.1

  -- in a list in order, what stands in front of a key is below it
  front_below : (xs : List K) (y : K) (ys : List K) → IsStrictlySortedBy R (xs ++ y ∷ ys) → AllByRecursion (λ x. R x y ≡ Less) xs
  unfolding IsStrictlySortedBy
  front_below [] y ys s = tt
  front_below (x ∷ xs) y ys s = (at_middle (λ z. R x z ≡ Less) xs y ys s.0, front_below xs y ys s.1)

  or_twice : (a b c : Bool) → a ≡ b → (b || c) ≡ (a || (b || c))
  or_twice true true c e = refl
  or_twice false false c e = refl
  or_twice true false c e = cc
  or_twice false true c e = cc

  or_swap : (a b c : Bool) → (b || (a || c)) ≡ (a || (b || c))
  or_swap true true c = refl
  or_swap true false c = refl
  or_swap false true c = refl
  or_swap false false c = refl

  has_by : (q k x : K) (xs ys : List K) (r : Ordering) → R k x ≡ r → list_any (is_at (R q)) ys ≡ (is_eq (R q k) || list_any (is_at (R q)) xs)
      → list_any (is_at (R q)) (match_ordering r (k ∷ x ∷ xs) (x ∷ xs) (x ∷ ys)) ≡ (is_eq (R q k) || (is_eq (R q x) || list_any (is_at (R q)) xs))
  has_by q k x xs ys Less e h = refl
  has_by q k x xs ys Equal e h = or_twice (is_eq (R q k)) (is_eq (R q x)) (list_any (is_at (R q)) xs) (ap is_eq (alike_right o k x q e))
  has_by q k x xs ys Greater e h = ap (λ b. is_eq (R q x) || b) h ∙ or_swap (is_eq (R q k)) (is_eq (R q x)) (list_any (is_at (R q)) xs)

  -- a list with one more key has that and those before
  has_insert : (q k : K) (ks : List K) → list_any (is_at (R q)) (insert_key R ks k) ≡ (is_eq (R q k) || list_any (is_at (R q)) ks)
  has_insert q k [] = refl
  has_insert q k (x ∷ xs) = has_by q k x xs (insert_key R xs k) (R k x) refl (has_insert q k xs)

put_last : (sorted rows : List HostRow) → IsStrictlySortedBy row_cmp (sorted ++ rows) → put_in_order sorted rows ≡ sorted ++ rows
put_last sorted [] s = sym (append-nil sorted)
put_last sorted (row ∷ rows) s =
    let e : with_row row sorted ≡ sorted ++ row ∷ [] = insert_last row_cmp_total sorted row (front_below row_cmp_total sorted row rows s) in
    ap (λ xs. put_in_order xs rows) e
    ∙ (let f : (sorted ++ row ∷ []) ++ rows ≡ sorted ++ row ∷ rows = append_assoc sorted (row ∷ []) rows in put_last (sorted ++ row ∷ []) rows (rw f s) ∙ f)

-- rows in row order, put in order again, are the same
pub in_order_stays : (rows : List HostRow) → IsStrictlySortedBy row_cmp rows → in_row_order rows ≡ rows
in_order_stays rows s = put_last [] rows s

regroup : (a b c : Bool) → (b || (a || c)) ≡ ((a || b) || c)
regroup true true c = refl
regroup true false c = refl
regroup false true c = refl
regroup false false c = refl

put_has : (q : HostRow) (sorted rows : List HostRow) → has_row (put_in_order sorted rows) q ≡ (has_row rows q || has_row sorted q)
put_has q sorted [] = refl
put_has q sorted (row ∷ rows) =
    put_has q (with_row row sorted) rows ∙ ap (λ b. has_row rows q || b) (has_insert row_cmp_total q row sorted)
    ∙ regroup (is_eq (row_cmp q row)) (has_row rows q) (has_row sorted q)

-- rows put in order are those that were put
pub in_order_has : (rows : List HostRow) (q : HostRow) → has_row (in_row_order rows) q ≡ has_row rows q
in_order_has rows q = put_has q [] rows ∙ or_none (has_row rows q)
  where
    or_none : (b : Bool) → (b || false) ≡ b
    or_none true = refl
    or_none false = refl

-- ---- one row after another

pub put_in_order_more : (sorted xs : List HostRow) (x : HostRow) → put_in_order sorted (xs ++ x ∷ []) ≡ with_row x (put_in_order sorted xs)
put_in_order_more sorted [] x = refl
put_in_order_more sorted (y ∷ xs) x = put_in_order_more (with_row y sorted) xs x

-- the step of a loop that puts the rows of a list in order
pub in_order_more : (rows : List HostRow) (i : ℕ) (d : HostRow) → i < length rows
    → in_row_order (take (i + 1) rows) ≡ with_row (get_or rows i d) (in_row_order (take i rows))
in_order_more rows i d lt = rw (take_more rows i d lt) (put_in_order_more [] (take i rows) (get_or rows i d))
