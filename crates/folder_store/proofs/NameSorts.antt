-- The names of asides that were listed, once they are in byte order.
use Rattle.std.proofs.Common.{arith, ◌≡◌, ◌≤◌, ◌<◌, ◌+◌, ◌++◌, ◌&&◌, ℕ, suc, Bool, true, false, cond, List, [], ◌∷◌, length, get_or, map, filter, sum_by, Option, None, Some, String, string_bytes, string_cmp, true≢false, refl, sym, ap, ◌∙◌, IsPermutation, IsSorted}
use Rattle.std.specs.Global.{Global}
use Rattle.std.specs.List.{AllByRecursion}
use Rattle.std.specs.declared.cmp.Ordering.{Ordering}
use Rattle.std.specs.declared.cmp.Ordering.TheVariants.{Less, Equal, Greater}
use Rattle.std.specs.Ordering.{is_eq, is_lt, ordering_reverse}
use Rattle.std.proofs.lemmas.Cmp.{nat_list_cmp_total}
use Rattle.std.proofs.lemmas.List.Sorted.{IsPermutation-map, sorted_far, ranks_by, sum_by-IsPermutation}
use Rattle.std.proofs.lemmas.List.Sums.{sum_by-cons}
use Rattle.world.specs.FileNames.{is_name, name_cmp}
use Rattle.world.specs.FileLists.{StoreFile, file_name, is_aside, asides}
use Rattle.world.specs.NamedLists.{InNameOrder}
use Rattle.world.proofs.NameOrder.{name_itself, same_name}
use Rattle.system_calls.specs.DiskFiles.{FolderHeld, AreAll, is_file_name}
use Rattle.folder_store.specs.FolderCalls.{is_aside_name}
use Rattle.folder_store.specs.FolderFiles.{FindsAsides, AppendsAsides}

abbrev is_it : List ℕ → List ℕ → ℕ
is_it name x = cond (is_name name x) 1 0

-- how often a name is among others
abbrev often : List ℕ → List (List ℕ) → ℕ
often name xs = sum_by (is_it name) xs

-- no name is before an earlier one
abbrev Rise : List (List ℕ) → Type 0
Rise [] = Unit {0}
Rise (x ∷ xs) = AllByRecursion (λ y. is_lt (name_cmp y x) ≡ false) xs × Rise xs

abbrev After : List ℕ → List (List ℕ) → Type 0
After x xs = AllByRecursion (λ y. name_cmp x y ≡ Less) xs

-- each name is before the later ones
abbrev StrictlyRise : List (List ℕ) → Type 0
StrictlyRise [] = Unit {0}
StrictlyRise (x ∷ xs) = After x xs × StrictlyRise xs

counts : (name : List ℕ) → is_it name name ≡ 1
counts name = ap (λ b. cond b 1 0) (name_itself name)

not_it : (name x : List ℕ) → is_name name x ≡ false → is_it name x ≡ 0
not_it name x e = ap (λ b. cond b 1 0) e

not_there : (name : List ℕ) (xs : List (List ℕ)) → AllByRecursion (λ y. is_name name y ≡ false) xs → often name xs ≡ 0
not_there name [] h = refl
not_there name (x ∷ xs) h =
    let rest = not_there name xs h.1 in
    let head = not_it name x h.0 in
    let all = sum_by-cons (is_it name) x xs in
    omega arith

unlike : (name y : List ℕ) (b : Bool) → is_name name y ≡ b → (name ≡ y → ⊥) → is_name name y ≡ false
unlike name y true e h = absurd (h (same_name name y e))
unlike name y false e h = e

low : (name x : List ℕ) → name_cmp name x ≡ Less → (xs : List (List ℕ)) → AllByRecursion (λ y. is_lt (name_cmp y x) ≡ false) xs
    → AllByRecursion (λ y. is_name name y ≡ false) xs
low name x less [] h = tt
low name x less (y ∷ ys) h = (
  unlike name y (is_name name y) refl (λ same. true≢false (ap is_lt (sym less) ∙ ap (λ n. is_lt (name_cmp n x)) same ∙ h.0)),
  low name x less ys h.1,
)

after_unlike : (x : List ℕ) (xs : List (List ℕ)) → After x xs → AllByRecursion (λ y. is_name x y ≡ false) xs
after_unlike x [] h = tt
after_unlike x (y ∷ ys) h = (ap is_eq h.0, after_unlike x ys h.1)

before_all : (name x : List ℕ) → name_cmp name x ≡ Less → (xs : List (List ℕ)) → After x xs → After name xs
before_all name x less [] h = tt
before_all name x less (y ∷ ys) h = (nat_list_cmp_total.trans name x y less h.0, before_all name x less ys h.1)

by_head : (o : Ordering) (x y : List ℕ) (xs ys : List (List ℕ)) → name_cmp x y ≡ o → Rise (x ∷ xs) → StrictlyRise (y ∷ ys)
    → ((name : List ℕ) → often name (x ∷ xs) ≡ often name (y ∷ ys)) → x ≡ y
by_head Less x y xs ys e up strict h =
    let here = counts x in
    let first = sum_by-cons (is_it x) x xs in
    let second = sum_by-cons (is_it x) y ys in
    let other = not_it x y (ap is_eq e) in
    let none = not_there x ys (after_unlike x ys (before_all x y e ys strict.0)) in
    let same = h x in
    absurd (omega arith)
by_head Equal x y xs ys e up strict h = same_name x y (ap is_eq e)
by_head Greater x y xs ys e up strict h =
    let less : name_cmp y x ≡ Less = nat_list_cmp_total.antisymm y x ∙ ap ordering_reverse e in
    let here = counts y in
    let first = sum_by-cons (is_it y) x xs in
    let second = sum_by-cons (is_it y) y ys in
    let other = not_it y x (ap is_eq less) in
    let none = not_there y xs (low y x less xs up.0) in
    let same = h y in
    absurd (omega arith)

same_rest : (x y : List ℕ) (xs ys : List (List ℕ)) → x ≡ y → ((name : List ℕ) → often name (x ∷ xs) ≡ often name (y ∷ ys)) → (name : List ℕ)
    → often name xs ≡ often name ys
same_rest x y xs ys e h name =
    let first = sum_by-cons (is_it name) x xs in
    let second = sum_by-cons (is_it name) y ys in
    let heads = ap (is_it name) e in
    let same = h name in
    omega arith

nowhere : (x : List ℕ) (xs : List (List ℕ)) → 0 ≡ often x (x ∷ xs) → ⊥
nowhere x xs h =
    let here = counts x in
    let first = sum_by-cons (is_it x) x xs in
    absurd (omega arith)

same_names : (xs ys : List (List ℕ)) → Rise xs → StrictlyRise ys → ((name : List ℕ) → often name xs ≡ often name ys) → xs ≡ ys
same_names [] [] up strict h = refl
same_names [] (y ∷ ys) up strict h = absurd (nowhere y ys (h y))
same_names (x ∷ xs) [] up strict h = absurd (nowhere x xs (sym (h x)))
same_names (x ∷ xs) (y ∷ ys) up strict h =
    let head = by_head (name_cmp x y) x y xs ys refl up strict h in
    let rest = same_names xs ys up.1 strict.1 (same_rest x y xs ys head h) in
    λ i. head i ∷ rest i

-- ---- what stays among some of them

sum_filter : (f : List ℕ → ℕ) (p : List ℕ → Bool) (xs : List (List ℕ)) → sum_by f (filter p xs) ≡ sum_by (λ x. cond (p x) (f x) 0) xs
sum_filter f p [] = refl
sum_filter f p (x ∷ xs) =
    by (p x) (sum_filter f p xs) ∙ sym (sum_by-cons (λ x. cond (p x) (f x) 0) x xs)
  where
    by : (b : Bool) → sum_by f (filter p xs) ≡ sum_by (λ x. cond (p x) (f x) 0) xs
        → sum_by f (cond b (x ∷ filter p xs) (filter p xs)) ≡ cond b (f x) 0 + sum_by (λ x. cond (p x) (f x) 0) xs
    by true h = sum_by-cons f x (filter p xs) ∙ ap (λ n. f x + n) h
    by false h = omega (arith, h)

filter_again : (p q : List ℕ → Bool) (xs : List (List ℕ)) → filter (λ x. p x && q x) xs ≡ filter p (filter q xs)
filter_again p q [] = refl
filter_again p q (x ∷ xs) = by (p x) (q x) refl (filter_again p q xs)
  where
    by : (b c : Bool) → p x ≡ b → filter (λ x. p x && q x) xs ≡ filter p (filter q xs)
        → cond (b && c) (x ∷ filter (λ x. p x && q x) xs) (filter (λ x. p x && q x) xs) ≡ filter p (cond c (x ∷ filter q xs) (filter q xs))
    by true true e h = ap (λ xs. x ∷ xs) h ∙ ap (λ b. cond b (x ∷ filter p (filter q xs)) (filter p (filter q xs))) (sym e)
    by true false e h = h
    by false true e h = h ∙ ap (λ b. cond b (x ∷ filter p (filter q xs)) (filter p (filter q xs))) (sym e)
    by false false e h = h

after_some : (p : List ℕ → Bool) (x : List ℕ) (xs : List (List ℕ)) → After x xs → After x (filter p xs)
after_some p x [] h = tt
after_some p x (y ∷ ys) h = by (p y) h.0 (after_some p x ys h.1)
  where
    by : (b : Bool) → name_cmp x y ≡ Less → After x (filter p ys) → After x (cond b (y ∷ filter p ys) (filter p ys))
    by true e h = (e, h)
    by false e h = h

strictly_some : (p : List ℕ → Bool) (xs : List (List ℕ)) → StrictlyRise xs → StrictlyRise (filter p xs)
strictly_some p [] h = tt
strictly_some p (x ∷ xs) h = by (p x) (after_some p x xs h.0) (strictly_some p xs h.1)
  where
    by : (b : Bool) → After x (filter p xs) → StrictlyRise (filter p xs) → StrictlyRise (cond b (x ∷ filter p xs) (filter p xs))
    by true e h = (e, h)
    by false e h = h

after_names : (x : List ℕ) (files : List StoreFile) → AllByRecursion (λ file. name_cmp x (file_name file) ≡ Less) files → After x (map file_name files)
after_names x [] h = tt
after_names x (file ∷ files) h = (h.0, after_names x files h.1)

names_rise : (files : List StoreFile) → InNameOrder file_name files → StrictlyRise (map file_name files)
names_rise [] h = tt
names_rise (file ∷ files) h = (after_names file.name files h.0, names_rise files h.1)

-- ---- strings in order

not_before : (x : String Global) (xs : List (String Global)) → ((k : ℕ) → k < length xs → is_lt (string_cmp (get_or xs k x) x) ≡ false)
    → AllByRecursion (λ y. is_lt (name_cmp y (string_bytes x)) ≡ false) (map string_bytes xs)
not_before x [] h = tt
not_before x (y ∷ ys) h = (h 0 (omega arith), not_before x ys (λ k p. h (suc k) (omega arith)))

all_rise : (xs : List (String Global))
    → ((i j : ℕ) (d : String Global) → i ≤ j → j < length xs → is_lt (string_cmp (get_or xs j d) (get_or xs i d)) ≡ false) → Rise (map string_bytes xs)
all_rise [] h = tt
all_rise (x ∷ xs) h = (
  not_before x xs (λ k p. h 0 (suc k) x (omega arith) (omega arith)),
  all_rise xs (λ i j d p q. h (suc i) (suc j) d (omega arith) (omega arith)),
)

sorted_rise : (xs : List (String Global)) → IsSorted string_cmp xs → Rise (map string_bytes xs)
sorted_rise xs h = all_rise xs (sorted_far (λ x y. is_lt (string_cmp x y)) (ranks_by nat_list_cmp_total string_bytes) xs h)

same_often : (names : List (List ℕ)) (files : List StoreFile) (found sorted : List (String Global)) → AreAll names files
    → map string_bytes found ≡ filter is_aside_name names → IsPermutation found sorted → (name : List ℕ)
    → often name (map string_bytes sorted) ≡ often name (asides files)
same_often names files found sorted all is same name =
    sum_by-IsPermutation (is_it name) (map string_bytes found) (map string_bytes sorted) (IsPermutation-map string_bytes found sorted same)
    ∙ ap (sum_by (is_it name)) (is ∙ filter_again is_aside is_file_name names) ∙ sum_filter (is_it name) is_aside (filter is_file_name names)
    ∙ sym (sum_by-IsPermutation (λ x. cond (is_aside x) (is_it name x) 0) (filter is_file_name names) (map file_name files) all)
    ∙ sym (sum_filter (is_it name) is_aside (map file_name files))

asides_sorted : (names : List (List ℕ)) (files : List StoreFile) (found sorted : List (String Global)) → AreAll names files → InNameOrder file_name files
    → map string_bytes found ≡ filter is_aside_name names → IsPermutation found sorted → IsSorted string_cmp sorted → map string_bytes sorted ≡ asides files
asides_sorted names files found sorted all order is same up =
    same_names (map string_bytes sorted) (asides files) (sorted_rise sorted up) (strictly_some is_aside (map file_name files) (names_rise files order))
    (same_often names files found sorted all is same)

pub asides_appended : (held : Option FolderHeld) (found sorted : List (String Global)) (before after : List (List ℕ))
    → after ≡ before ++ map string_bytes sorted → FindsAsides held (map string_bytes found) → IsPermutation found sorted → IsSorted string_cmp sorted
    → AppendsAsides held before after
asides_appended None found sorted before after is finds same up = tt
asides_appended (Some held) found sorted before after is (names, all, order, listed) same up =
    is ∙ ap (λ xs. before ++ xs) (asides_sorted names held.files found sorted all order listed same up)
