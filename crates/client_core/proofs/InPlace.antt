-- A loop over elements that lets each go on in its place.
use Rattle.std.proofs.Common.{ℕ, ◌≡◌, ◌+◌, ◌<◌, ◌≤◌, List, [], ◌∷◌, ◌++◌, zero, suc, length, get_or, set, take, drop, refl, sym, ap, ◌∙◌, arith}
use Rattle.std.specs.Prelude.{map, flat_map}
use Rattle.std.specs.List.{AllByRecursion}
use Rattle.std.proofs.lemmas.List.{append-nil, get_or-set_same, take_all, drop_all, take_more, get_or_default, flat_map_more}
use Rattle.std.proofs.lemmas.List.Edits.{map_over_more}

-- what stands from a place on is still as at first
place : {X : Type 0} (go : X → X) (xs : List X) (i : ℕ) (d : X) → i < length xs → get_or (map go (take i xs) ++ drop i xs) i d ≡ get_or xs i d
place go [] i d lt = absurd (omega arith)
place go (x ∷ xs) zero d lt = refl
place go (x ∷ xs) (suc i) d lt = place go xs i d (omega arith)

-- the loop so far
pub record Gone {X : Type 0} (go : X → X) (xs ys : List X) (i : ℕ) : Type 0 where
  pub at : i < length xs
  pub so_far : ys ≡ map go (take i xs) ++ drop i xs

pub gone_all : {X : Type 0} (go : X → X) (xs ys : List X) (i : ℕ) → length xs ≤ i → ys ≡ map go (take i xs) ++ drop i xs → ys ≡ map go xs
gone_all go xs ys i past so_far =
    so_far ∙ ap (λ rest. map go (take i xs) ++ rest) (drop_all i xs past) ∙ append-nil (map go (take i xs)) ∙ ap (map go) (take_all i xs past)

pub as_long : {X : Type 0} (go : X → X) (xs ys : List X) (i : ℕ) → ys ≡ map go (take i xs) ++ drop i xs → length ys ≡ length xs
as_long go xs ys i so_far = ap length so_far ∙ long xs i
  where
    long : (zs : List _) (k : ℕ) → length (map go (take k zs) ++ drop k zs) ≡ length zs
    long [] zero = refl
    long [] (suc k) = refl
    long (z ∷ zs) zero = refl
    long (z ∷ zs) (suc k) = ap suc (long zs k)

pub next_of : {X : Type 0} (go : X → X) (xs ys : List X) (i : ℕ) (d : X) → Gone go xs ys i → get_or ys i d ≡ get_or xs i d
next_of go xs ys i d gone = ap (λ zs. get_or zs i d) gone.so_far ∙ place go xs i d gone.at

-- what was put in its place is there
pub set_at : {X : Type 0} (go : X → X) (xs ys : List X) (i : ℕ) (d new : X) → Gone go xs ys i → get_or (set ys i new) i d ≡ new
set_at go xs ys i d new gone =
    let long : length ys ≡ length xs = as_long go xs ys i gone.so_far in
    let lt : i < length xs = gone.at in
    get_or-set_same ys i new d (omega arith)

pub each_of : {X : Type 0} (P : X → Type 0) (xs : List X) (i : ℕ) (d : X) → i < length xs → AllByRecursion P xs → P (get_or xs i d)
each_of P [] i d lt all = absurd (omega arith)
each_of P (x ∷ xs) zero d lt all = all.0
each_of P (x ∷ xs) (suc i) d lt all = each_of P xs i d (omega arith) all.1

pub go_on_more : {X : Type 0} (go : X → X) (xs ys : List X) (i : ℕ) (d new : X) → Gone go xs ys i → new ≡ go (get_or ys i d)
    → set ys i new ≡ map go (take (i + 1) xs) ++ drop (i + 1) xs
go_on_more go xs ys i d new gone goes =
    let lt : i < length xs = gone.at in
    ap (λ x. set ys i x) (goes ∙ ap go (next_of go xs ys i d gone))
    ∙ map_over_more go xs ys i (get_or xs i d) lt gone.so_far
    (get_or_default xs i d (get_or xs i d) lt ∙ sym (next_of go xs ys i (get_or xs i d) gone))

-- what each adds to a list in its turn, frames or news
pub add_more : {X Y : Type 0} (go : X → X) (say : X → List Y) (xs ys : List X) (i : ℕ) (d : X) (before some more : List Y) → Gone go xs ys i
    → some ≡ before ++ flat_map say (take i xs) → more ≡ some ++ say (get_or ys i d) → more ≡ before ++ flat_map say (take (i + 1) xs)
add_more go say xs ys i d before some more gone so_far adds =
    let lt : i < length xs = gone.at in
    adds ∙ ap (λ s. s ++ say (get_or ys i d)) so_far
    ∙ ap (λ x. (before ++ flat_map say (take i xs)) ++ say x) (next_of go xs ys i d gone)
    ∙ flat_map_more say before (take i xs) (get_or xs i d)
    ∙ ap (λ zs. before ++ flat_map say zs) (sym (take_more xs i d lt))
