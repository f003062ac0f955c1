-- Lists with one element more, and their fronts.
use Rattle.std.proofs.Common.{◌≡◌, suc, ◌+◌, ◌≤◌, Bool, true, false, ◌||◌, List, [], ◌∷◌, ◌++◌, length, map, refl, sym, ap, ◌∙◌, arith, append_assoc, append-nil}
use Rattle.std.specs.declared.cmp.Ordering.{Ordering}
use Rattle.std.specs.declared.cmp.Ordering.TheVariants.{Less, Equal, Greater}
use Rattle.std.specs.Ordering.{match_ordering, is_eq, ordering_reverse}
use Rattle.std.specs.BTreeMap.{is_at}
use Rattle.std.specs.BTreeSet.{insert_key}
use Rattle.std.specs.Cmp.{IsTotalOrder}
use Rattle.std.specs.List.{AllByRecursion, AllPairs, list_any}
use Rattle.std.specs.List.Sorted.{IsStrictlySortedBy}
use Rattle.std.proofs.lemmas.List.{map_push, length-append}
use Rattle.std.proofs.lemmas.List.Elements.{All-from_recursion}
use Rattle.std.proofs.lemmas.List.Kept.{AllPairs-cons}
use Rattle.net_types.proofs.AllLaws.{all_join, all_map}
use Rattle.world.specs.declared.rows.HostRow.{HostRow}
use Rattle.world.specs.RowOrder.{row_cmp, row_cmp_total, has_row, with_row, put_in_order, in_row_order}
use Rattle.world.proofs.RowLists.{in_order_has, put_in_order_more}
use Rattle.script_model.specs.Spellings.{AreSpelled}
use Rattle.iface_lists.proofs.UnlikeLaws.{by_recursion}

-- ---- fronts

pub all_front : {X : Type 0} (P : X → Type 0) (xs ys : List X) → AllByRecursion P (xs ++ ys) → AllByRecursion P xs
all_front P [] ys all = tt
all_front P (x ∷ xs) ys all = (all.0, all_front P xs ys all.1)

pub all_next : {X : Type 0} (P : X → Type 0) (xs : List X) (x : X) (ys : List X) → AllByRecursion P (xs ++ x ∷ ys) → P x
all_next P [] x ys all = all.0
all_next P (y ∷ xs) x ys all = all_next P xs x ys all.1

pairs_head : {X : Type 0} (R : X → X → Type 0) (x : X) (xs : List X) → AllPairs R (x ∷ xs) → AllByRecursion (R x) xs
pairs_head R x xs pairs = by_recursion (R x) xs (λ k d within. pairs 0 (suc k) d (omega arith) (omega arith))

pub pairs_tail : {X : Type 0} (R : X → X → Type 0) (x : X) (xs : List X) → AllPairs R (x ∷ xs) → AllPairs R xs
pairs_tail R x xs pairs = λ i j d below within. pairs (suc i) (suc j) d (omega arith) (omega arith)

pub pairs_none : {X : Type 0} (R : X → X → Type 0) → AllPairs R []
pairs_none R = λ i j d below within. absurd (omega arith)

pub pairs_front : {X : Type 0} (R : X → X → Type 0) (xs ys : List X) → AllPairs R (xs ++ ys) → AllPairs R xs
pairs_front R [] ys pairs = pairs_none R
pairs_front R (x ∷ xs) ys pairs =
    AllPairs-cons R x xs (All-from_recursion (R x) xs (all_front (R x) xs ys (pairs_head R x (xs ++ ys) pairs)))
    (pairs_front R xs ys (pairs_tail R x (xs ++ ys) pairs))

-- the next one beside all before it
pub pairs_next : {X : Type 0} (R : X → X → Type 0) (xs : List X) (x : X) (ys : List X) → AllPairs R (xs ++ x ∷ ys) → AllByRecursion (λ y. R y x) xs
pairs_next R [] x ys pairs = tt
pairs_next R (y ∷ xs) x ys pairs = (all_next (R y) xs x ys (pairs_head R y (xs ++ x ∷ ys) pairs), pairs_next R xs x ys (pairs_tail R y (xs ++ x ∷ ys) pairs))

pub pairs_more : {X : Type 0} (R : X → X → Type 0) (xs : List X) (x : X) → AllPairs R xs → AllByRecursion (λ y. R y x) xs → AllPairs R (xs ++ x ∷ [])
pairs_more R [] x pairs beside = λ i j d below within. absurd (omega arith)
pairs_more R (y ∷ xs) x pairs beside =
    AllPairs-cons R y (xs ++ x ∷ []) (All-from_recursion (R y) (xs ++ x ∷ []) (all_join (R y) xs (x ∷ []) (pairs_head R y xs pairs) (beside.0, tt)))
    (pairs_more R xs x (pairs_tail R y xs pairs) beside.1)

-- ---- lines

-- a line more at the end of a block that is the last one
pub line_more : {X L : Type 0} (f : X → L) (xs : List X) (x : X) (none : List L) → none ≡ [] → (map f xs ++ none) ++ f x ∷ [] ≡ map f (xs ++ x ∷ []) ++ none
line_more f xs x none e =
    ap (λ t. (map f xs ++ t) ++ f x ∷ []) e
    ∙ ap (λ t. t ++ f x ∷ []) (append-nil (map f xs))
    ∙ sym (map_push f xs x)
    ∙ sym (append-nil (map f (xs ++ x ∷ [])))
    ∙ ap (λ t. map f (xs ++ x ∷ []) ++ t) (sym e)

-- and behind other blocks
pub behind : {L : Type 0} (front rest grown : List L) (line : L) → rest ++ line ∷ [] ≡ grown → (front ++ rest) ++ line ∷ [] ≡ front ++ grown
behind front rest grown line e = append_assoc front rest (line ∷ []) ∙ ap (λ t. front ++ t) e

-- a text more, and what it spells
pub spelled_more : {T X : Type 0} (Spells : T → X → Type 0) (texts : List T) (xs : List X) (text : T) (x : X) → AreSpelled Spells texts xs → Spells text x
    → AreSpelled Spells (texts ++ text ∷ []) (xs ++ x ∷ [])
spelled_more Spells [] [] text x are spells = (spells, tt)
spelled_more Spells [] (y ∷ xs) text x are spells = absurd are
spelled_more Spells (t ∷ texts) [] text x are spells = absurd are
spelled_more Spells (t ∷ texts) (y ∷ xs) text x are spells = (are.0, spelled_more Spells texts xs text x are.1 spells)

pub none_spelled : {T X : Type 0} (Spells : T → X → Type 0) (texts : List T) → AreSpelled Spells texts [] → texts ≡ []
none_spelled Spells [] are = refl
none_spelled Spells (text ∷ texts) are = absurd are

-- ---- rows

-- a row that isn't there yet makes one more
put_new : (row x : HostRow) (xs ys : List HostRow) (r : Ordering) → row_cmp row x ≡ r → (is_eq r || has_row xs row) ≡ false
    → (has_row xs row ≡ false → length ys ≡ length xs + 1)
    → length (match_ordering r (row ∷ x ∷ xs) (x ∷ xs) (x ∷ ys)) ≡ length (x ∷ xs) + 1
put_new row x xs ys Less e none later = omega arith
put_new row x xs ys Equal e none later = cc
put_new row x xs ys Greater e none later = omega (arith, later none)

new_counted : (row : HostRow) (rows : List HostRow) → has_row rows row ≡ false → length (with_row row rows) ≡ length rows + 1
new_counted row [] none = refl
new_counted row (x ∷ xs) none = put_new row x xs (with_row row xs) (row_cmp row x) refl none (new_counted row xs)

pub once_more : (rows : List HostRow) (row : HostRow) → length (in_row_order rows) ≡ length rows → has_row rows row ≡ false
    → length (in_row_order (rows ++ row ∷ [])) ≡ length (rows ++ row ∷ [])
once_more rows row once none =
    let new : has_row (in_row_order rows) row ≡ false = in_order_has rows row ∙ none in
    let counted : length (in_row_order (rows ++ row ∷ [])) ≡ length (in_row_order rows) + 1 =
    ap length (put_in_order_more [] rows row) ∙ new_counted row (in_row_order rows) new in
    omega (arith, counted, once, length-append rows (row ∷ []))

module _ {K : Type 0} {R : K → K → Ordering} (o : IsTotalOrder R) where
  inserted_by : (P : K → Type 0) (k x : K) (xs ys : List K) (r : Ordering) → P k → P x → AllByRecursion P xs → AllByRecursion P ys
      → AllByRecursion P (match_ordering r (k ∷ x ∷ xs) (x ∷ xs) (x ∷ ys))
  inserted_by P k x xs ys Less pk px all others = (pk, (px, all))
  inserted_by P k x xs ys Equal pk px all others = (px, all)
  inserted_by P k x xs ys Greater pk px all others = (px, others)

  all_inserted : (P : K → Type 0) (ks : List K) (k : K) → AllByRecursion P ks → P k → AllByRecursion P (insert_key R ks k)
  all_inserted P [] k all pk = (pk, tt)
  all_inserted P (x ∷ xs) k all pk = inserted_by P k x xs (insert_key R xs k) (R k x) pk all.0 all.1 (all_inserted P xs k all.1 pk)

  sorted_by : (k x : K) (xs : List K) (r : Ordering) → R k x ≡ r → AllByRecursion (λ y. R x y ≡ Less) xs → IsStrictlySortedBy R xs
      → IsStrictlySortedBy R (insert_key R xs k)
      → IsStrictlySortedBy R (match_ordering r (k ∷ x ∷ xs) (x ∷ xs) (x ∷ insert_key R xs k))
  unfolding IsStrictlySortedBy
  sorted_by k x xs Less e above sorted later = ((e, all_map (λ y. R x y ≡ Less) (λ y. R k y ≡ Less) (λ y h. o.trans k x y e h) xs above), (above, sorted))
  sorted_by k x xs Equal e above sorted later = (above, sorted)
  sorted_by k x xs Greater e above sorted later = (all_inserted (λ y. R x y ≡ Less) xs k above (o.antisymm x k ∙ ap ordering_reverse e), later)

  insert_sorted : (ks : List K) (k : K) → IsStrictlySortedBy R ks → IsStrictlySortedBy R (insert_key R ks k)
  unfolding IsStrictlySortedBy
  insert_sorted [] k sorted = (tt, tt)
  insert_sorted (x ∷ xs) k sorted = sorted_by k x xs (R k x) refl sorted.0 sorted.1 (insert_sorted xs k sorted.1)

  below_none : (k : K) (xs : List K) → AllByRecursion (λ y. R k y ≡ Less) xs → list_any (is_at (R k)) xs ≡ false
  below_none k [] all = refl
  below_none k (x ∷ xs) all = ap (λ r. is_eq r || list_any (is_at (R k)) xs) all.0 ∙ below_none k xs all.1

  old_by : (k x : K) (xs : List K) (r : Ordering) → R k x ≡ r → AllByRecursion (λ y. R x y ≡ Less) xs → (is_eq r || list_any (is_at (R k)) xs) ≡ true
      → (list_any (is_at (R k)) xs ≡ true → insert_key R xs k ≡ xs) → match_ordering r (k ∷ x ∷ xs) (x ∷ xs) (x ∷ insert_key R xs k) ≡ x ∷ xs
  old_by k x xs Less e above has later =
      let none = below_none k xs (all_map (λ y. R x y ≡ Less) (λ y. R k y ≡ Less) (λ y h. o.trans k x y e h) xs above) in
      let never : true ≡ false = sym has ∙ none in cc
  old_by k x xs Equal e above has later = refl
  old_by k x xs Greater e above has later = ap (λ ys. x ∷ ys) (later has)

  -- a key that is there isn't put in again
  insert_old : (ks : List K) (k : K) → IsStrictlySortedBy R ks → list_any (is_at (R k)) ks ≡ true → insert_key R ks k ≡ ks
  unfolding IsStrictlySortedBy
  insert_old [] k sorted has = cc
  insert_old (x ∷ xs) k sorted has = old_by k x xs (R k x) refl sorted.0 has (insert_old xs k sorted.1)

  -- at most one more
  length_by : (k x : K) (xs ys : List K) (r : Ordering) → length ys ≤ length xs + 1
      → length (match_ordering r (k ∷ x ∷ xs) (x ∷ xs) (x ∷ ys)) ≤ length (x ∷ xs) + 1
  length_by k x xs ys Less later = omega arith
  length_by k x xs ys Equal later = omega arith
  length_by k x xs ys Greater later = omega (arith, later)

  insert_length : (ks : List K) (k : K) → length (insert_key R ks k) ≤ length ks + 1
  insert_length [] k = omega arith
  insert_length (x ∷ xs) k = length_by k x xs (insert_key R xs k) (R k x) (insert_length xs k)

put_sorted : (sorted rows : List HostRow) → IsStrictlySortedBy row_cmp sorted → IsStrictlySortedBy row_cmp (put_in_order sorted rows)
put_sorted sorted [] s = s
put_sorted sorted (row ∷ rows) s = put_sorted (with_row row sorted) rows (insert_sorted row_cmp_total sorted row s)

none_sorted : IsStrictlySortedBy row_cmp []
unfolding IsStrictlySortedBy
none_sorted = tt

put_length : (sorted rows : List HostRow) → length (put_in_order sorted rows) ≤ length sorted + length rows
put_length sorted [] = omega arith
put_length sorted (row ∷ rows) = omega (arith, put_length (with_row row sorted) rows, insert_length row_cmp_total sorted row)

put_joined : (sorted xs ys : List HostRow) → put_in_order sorted (xs ++ ys) ≡ put_in_order (put_in_order sorted xs) ys
put_joined sorted [] ys = refl
put_joined sorted (x ∷ xs) ys = put_joined (with_row x sorted) xs ys

-- where rows are each once, the next one isn't among those before it
pub once_next : (rows : List HostRow) (row : HostRow) (more : List HostRow) → length (in_row_order (rows ++ row ∷ more)) ≡ length (rows ++ row ∷ more)
    → has_row rows row ≡ false
once_next rows row more once = by (has_row rows row) refl
  where
    keys : List HostRow
    keys = in_row_order rows

    by : (b : Bool) → has_row rows row ≡ b → has_row rows row ≡ false
    by false e = e
    by true e =
        let has : has_row keys row ≡ true = in_order_has rows row ∙ e in
        let same : with_row row keys ≡ keys = insert_old row_cmp_total keys row (put_sorted [] rows none_sorted) has in
        let all : length (in_row_order (rows ++ row ∷ more)) ≡ length (put_in_order keys more) =
        ap length (put_joined [] rows (row ∷ more)) ∙ ap (λ ks. length (put_in_order ks more)) same in
        absurd (omega (arith, all, once, put_length keys more, put_length [] rows, length-append rows (row ∷ more)))
