-- Loops over lists: what was gone through, and what is left.
use Rattle.std.proofs.Common.{ℕ, inl, inr, ◌+◌, ◌<◌, ◌≤◌, zero, suc, Bool, true, false, ◌||◌, List, [], ◌∷◌, ◌++◌, ◌≡◌, refl, sym, ap, subst, ◌∙◌, map, length, drop, drop-cons, get_or, set, append_assoc, append-nil, arith, add-one}
use Rattle.std.specs.List.{AllByRecursion, list_any}
use Rattle.std.specs.Prelude.{◌≢◌, ◌-◌, nat_lt}
use Rattle.std.specs.List.{SwappedAt}
use Rattle.std.proofs.lemmas.Bool.{cases_eq, or_right}
use Rattle.std.proofs.lemmas.Bool.Decides.{nat_tests}
use Rattle.std.proofs.lemmas.List.{drop_all, get_or-set_other, get_or-set_same, get_or_append_left, get_or_push, length-append, length-set, map-append, same_lists}

-- ---- the list of which elements are taken one by one

pub cut_more : {X : Type 0} (done rest all : List X) (x : X) (left : List X) → done ++ left ≡ all → x ∷ rest ≡ left → (done ++ x ∷ []) ++ rest ≡ all
cut_more done rest all x left whole next = append_assoc done (x ∷ []) rest ∙ ap (λ (more : List _). done ++ more) next ∙ whole

pub all_gone : {X : Type 0} (done rest all : List X) (left : ℕ) → done ++ rest ≡ all → left ≡ length rest → left ≡ 0 → done ≡ all
all_gone done [] all left is counted none = sym (append-nil done) ∙ is
all_gone done (x ∷ rest) all left is counted none = let some : left ≡ length (x ∷ rest) = counted in absurd (omega arith)

-- ---- what holds of each

pub all_with : {X : Type 0} (P : X → Type 0) (xs : List X) (x : X) → AllByRecursion P xs → P x → AllByRecursion P (xs ++ x ∷ [])
all_with P [] x all holds = (holds, tt)
all_with P (y ∷ xs) x all holds = (all.0, all_with P xs x all.1 holds)

pub all_before : {X : Type 0} (P : X → Type 0) (xs ys : List X) → AllByRecursion P (xs ++ ys) → AllByRecursion P xs
all_before P [] ys all = tt
all_before P (x ∷ xs) ys all = (all.0, all_before P xs ys all.1)

pub all_last : {X : Type 0} (P : X → Type 0) (xs ys : List X) (x : X) → AllByRecursion P (xs ++ x ∷ ys) → P x
all_last P [] ys x all = all.0
all_last P (y ∷ xs) ys x all = all_last P xs ys x all.1

pub all_at : {X : Type 0} (P : X → Type 0) (xs : List X) (i : ℕ) (x : X) → AllByRecursion P xs → x ≡ get_or xs i x → i < length xs → P x
all_at P [] i x all is lt = absurd (omega arith)
all_at P (y ∷ xs) zero x all is lt = subst P (sym is) all.0
all_at P (y ∷ xs) (suc i) x all is lt = all_at P xs i x all.1 is (omega arith)

-- ---- tests

pub left_of : {X : Type 0} (xs : List X) (i : ℕ) (x : X) → x ≡ get_or xs i x → i < length xs → drop i xs ≡ x ∷ drop (i + 1) xs
left_of xs i x is lt = rw add-one (drop-cons xs i x lt ∙ ap (λ (y : _). y ∷ drop (suc i) xs) (sym is))

pub any_step : {X : Type 0} (test : X → Bool) (xs : List X) (i : ℕ) (x : X) → x ≡ get_or xs i x → i < length xs → test x ≡ false
    → list_any test (drop i xs) ≡ list_any test (drop (i + 1) xs)
any_step test xs i x is lt not_here =
    ap (list_any test) (left_of xs i x is lt) ∙ ap (λ (b : Bool). b || list_any test (drop (i + 1) xs)) not_here

pub any_found : {X : Type 0} (test : X → Bool) (xs : List X) (i : ℕ) (x : X) → x ≡ get_or xs i x → i < length xs → test x ≡ true
    → list_any test (drop i xs) ≡ true
any_found test xs i x is lt here =
    ap (list_any test) (left_of xs i x is lt) ∙ ap (λ (b : Bool). b || list_any test (drop (i + 1) xs)) here

pub any_gone : {X : Type 0} (test : X → Bool) (xs : List X) (i : ℕ) → length xs ≤ i → list_any test (drop i xs) ≡ false
any_gone test xs i le = ap (list_any test) (drop_all i xs le)

pub any_there : {X : Type 0} (test : X → Bool) (xs : List X) (i : ℕ) (x : X) → x ≡ get_or xs i x → i < length xs → test x ≡ true
    → list_any test xs ≡ true
any_there test [] i x is lt here = absurd (omega arith)
any_there test (y ∷ xs) zero x is lt here = ap (λ (b : Bool). b || list_any test xs) (sym (ap test is) ∙ here)
any_there test (y ∷ xs) (suc i) x is lt here = or_right (test y) (list_any test xs) (any_there test xs i x is (omega arith) here)

pub below : (i n : ℕ) → true ≡ nat_lt i n → i < n
below i n h = grind (arith, nat_tests)

pub map_with : {X Y : Type 0} (f : X → Y) (xs ys : List X) (x : X) → ys ≡ xs ++ x ∷ [] → map f ys ≡ map f xs ++ f x ∷ []
map_with f xs ys x is = ap (map f) is ∙ map-append f xs (x ∷ [])

-- ---- a list that is gone through, each element in its place: P holds up to an index, and Q from there on

abbrev pub AllPast : {X : Type 0} → (P Q : X → Type 0) → ℕ → List X → Type 0
AllPast P Q zero xs = AllByRecursion Q xs
AllPast P Q (suc i) [] = Unit {0}
AllPast P Q (suc i) (x ∷ xs) = P x × AllPast P Q i xs

pub past_all : {X : Type 0} (P Q : X → Type 0) (i : ℕ) (xs : List X) → AllPast P Q i xs → length xs ≤ i → AllByRecursion P xs
past_all P Q i [] all le = tt
past_all P Q zero (x ∷ xs) all le = absurd (omega arith)
past_all P Q (suc i) (x ∷ xs) all le = (all.0, past_all P Q i xs all.1 (omega arith))

pub past_next : {X : Type 0} (P Q : X → Type 0) (i : ℕ) (xs : List X) (x : X) → AllPast P Q i xs → x ≡ get_or xs i x → i < length xs → (Q x → P x)
    → AllPast P Q (suc i) xs
past_next P Q i [] x all is lt so = absurd (omega arith)
past_next P Q zero (y ∷ xs) x all is lt so = (subst P is (so (subst Q (sym is) all.0)), all.1)
past_next P Q (suc i) (y ∷ xs) x all is lt so = (all.0, past_next P Q i xs x all.1 is (omega arith) so)

pub past_set : {X : Type 0} (P Q : X → Type 0) (i : ℕ) (xs : List X) (x next : X) → AllPast P Q i xs → x ≡ get_or xs i x → i < length xs → (Q x → P next)
    → AllPast P Q (suc i) (set xs i next)
past_set P Q i [] x next all is lt so = absurd (omega arith)
past_set P Q zero (y ∷ xs) x next all is lt so = (so (subst Q (sym is) all.0), all.1)
past_set P Q (suc i) (y ∷ xs) x next all is lt so = (all.0, past_set P Q i xs x next all.1 is (omega arith) so)

pub map_set : {X Y : Type 0} (f : X → Y) (i : ℕ) (xs : List X) (x next : X) → x ≡ get_or xs i x → f next ≡ f x → map f (set xs i next) ≡ map f xs
map_set f i [] x next is same = refl
map_set f zero (y ∷ xs) x next is same = ap (λ (z : _). z ∷ map f xs) (same ∙ ap f is)
map_set f (suc i) (y ∷ xs) x next is same = ap (λ (zs : List _). f y ∷ zs) (map_set f i xs x next is same)

-- ---- an element that was taken out, with the last one in its place, and comes back by a swap with that

module _ {X : Type 0} (xs ys zs new : List X) (i : ℕ) (next : X) (n m last : ℕ) (n_is : n ≡ length xs) (m_is : m ≡ length ys) (lt : i < length xs)
    (moved : (d : X) → i + 1 < n → get_or ys i d ≡ get_or xs (n - 1) d)
    (others : (k : ℕ) (d : X) → k ≢ i → k + 1 < n → get_or ys k d ≡ get_or xs k d) (shorter : m + 1 ≡ n) (is_last : last + 1 ≡ n)
    (pushed : zs ≡ ys ++ next ∷ []) (swap_of : SwappedAt zs new i last) where
  swapped : SwappedAt (ys ++ next ∷ []) new i last
  swapped = subst (λ (ws : List X). SwappedAt ws new i last) pushed swap_of

  at_place : (d : X) → get_or new i d ≡ get_or (set xs i next) i d
  at_place d = swapped.0 d ∙ get_or_push ys next d last (omega arith) ∙ sym (get_or-set_same xs i next d lt)

  at_last : (d : X) → last ≢ i → get_or new last d ≡ get_or xs last d
  at_last d not =
      swapped.1 d ∙ get_or_append_left ys (next ∷ []) d i (omega arith) ∙ moved d (omega arith)
      ∙ ap (λ (k : ℕ). get_or xs k d) (omega arith)

  elsewhere : (k : ℕ) (d : X) → k < length xs → k ≢ i → k ≢ last → get_or new k d ≡ get_or xs k d
  elsewhere k d within not not_last =
      swapped.2 k d not not_last ∙ get_or_append_left ys (next ∷ []) d k (omega arith) ∙ others k d not (omega arith)

  long : length new ≡ length xs
  long =
      ap length (swapped.3 next) ∙ length-set _ last _ ∙ length-set (ys ++ next ∷ []) i _ ∙ length-append ys (next ∷ [])
      ∙ (let one : length (next ∷ []) ≡ 1 = refl in omega arith)

  pub set_in_place : new ≡ set xs i next
  set_in_place = same_lists new (set xs i next) (long ∙ sym (length-set xs i next)) each
    where
      each : (k : ℕ) (d : X) → k < length new → get_or new k d ≡ get_or (set xs i next) k d
      each k d within = elim (cases_eq k i) [
        | inl here ↦ subst (λ (j : ℕ). get_or new j d ≡ get_or (set xs i next) j d) (sym here) (at_place d)
        | inr not ↦ elim (cases_eq k last) [
          | inl here ↦ subst (λ (j : ℕ). get_or new j d ≡ get_or xs j d) (sym here) (at_last d (λ e. not (here ∙ e))) ∙ sym (get_or-set_other xs i k next d not)
          | inr not_last ↦ elsewhere k d (subst (λ (c : ℕ). k < c) long within) not not_last ∙ sym (get_or-set_other xs i k next d not)
        ]
      ]
