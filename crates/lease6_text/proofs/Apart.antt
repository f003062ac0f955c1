-- Lists of which each two elements are related, one element after another.
use Rattle.std.proofs.Common.{◌≡◌, zero, suc, List, [], ◌∷◌, ◌++◌, Bool, true, false, ◌||◌, refl, arith}
use Rattle.std.specs.Prelude.{All, AllPairs}
use Rattle.std.specs.List.{AllByRecursion, list_any}
use Rattle.std.proofs.lemmas.Bool.{or_parts}
use Rattle.std.proofs.lemmas.List.Kept.{AllPairs-cons}
use Rattle.net_types.proofs.AllLaws.{all_join}

-- ---- of each element

pub each_at : {X : Type 0} (P : X → Type 0) (xs : List X) → AllByRecursion P xs → All P xs
each_at P [] all k d inside = absurd (omega (arith, inside))
each_at P (x ∷ xs) all zero d inside = all.0
each_at P (x ∷ xs) all (suc k) d inside = each_at P xs all.1 k d (omega (arith, inside))

pub all_front : {X : Type 0} (P : X → Type 0) (xs ys : List X) → AllByRecursion P (xs ++ ys) → AllByRecursion P xs
all_front P [] ys all = tt
all_front P (x ∷ xs) ys all = (all.0, all_front P xs ys all.1)

pub all_rest : {X : Type 0} (P : X → Type 0) (xs ys : List X) → AllByRecursion P (xs ++ ys) → AllByRecursion P ys
all_rest P [] ys all = all
all_rest P (x ∷ xs) ys all = all_rest P xs ys all.1

-- none passes the test
pub none_passes : {X : Type 0} (test : X → Bool) (P : X → Type 0) → ((x : X) → test x ≡ false → P x) → (xs : List X) → list_any test xs ≡ false
    → AllByRecursion P xs
none_passes test P fails [] e = tt
none_passes test P fails (x ∷ xs) e = let parts = or_parts (test x) (list_any test xs) e in (fails x parts.0, none_passes test P fails xs parts.1)

neither : (a b : Bool) → a ≡ false → b ≡ false → (a || b) ≡ false
neither true b one other = one
neither false b one other = other

pub passes_none : {X : Type 0} (test : X → Bool) (P : X → Type 0) → ((x : X) → P x → test x ≡ false) → (xs : List X) → AllByRecursion P xs
    → list_any test xs ≡ false
passes_none test P fails [] all = refl
passes_none test P fails (x ∷ xs) all = neither (test x) (list_any test xs) (fails x all.0) (passes_none test P fails xs all.1)

-- ---- of each two elements

abbrev pub Apart : {X : Type 0} → (X → X → Type 0) → List X → Type 0
Apart R [] = Unit {0}
Apart R (x ∷ xs) = AllByRecursion (R x) xs × Apart R xs

after_first : {X : Type 0} (R : X → X → Type 0) (x : X) (xs : List X) → AllPairs R (x ∷ xs) → AllPairs R xs
after_first R x xs pairs = λ i j d below inside. pairs (suc i) (suc j) d (omega (arith, below)) (omega (arith, inside))

from_each : {X : Type 0} (P : X → Type 0) (xs : List X) → All P xs → AllByRecursion P xs
from_each P [] all = tt
from_each P (x ∷ xs) all = (all 0 x (omega arith), from_each P xs (λ k d inside. all (suc k) d (omega (arith, inside))))

pub apart_from : {X : Type 0} (R : X → X → Type 0) (xs : List X) → AllPairs R xs → Apart R xs
apart_from R [] pairs = tt
apart_from R (x ∷ xs) pairs =
    (from_each (R x) xs (λ k d inside. pairs 0 (suc k) d (omega arith) (omega (arith, inside))), apart_from R xs (after_first R x xs pairs))

pub pairs_from : {X : Type 0} (R : X → X → Type 0) (xs : List X) → Apart R xs → AllPairs R xs
pairs_from R [] apart = λ i j d below inside. absurd (omega (arith, inside))
pairs_from R (x ∷ xs) apart = AllPairs-cons R x xs (each_at (R x) xs apart.0) (pairs_from R xs apart.1)

-- what is apart from all elements stands behind them
pub apart_more : {X : Type 0} (R : X → X → Type 0) (xs : List X) (x : X) → Apart R xs → AllByRecursion (λ other. R other x) xs → Apart R (xs ++ x ∷ [])
apart_more R [] x apart all = (tt, tt)
apart_more R (y ∷ ys) x apart all = (all_join (R y) ys (x ∷ []) apart.0 (all.0, tt), apart_more R ys x apart.1 all.1)

pub apart_front : {X : Type 0} (R : X → X → Type 0) (xs ys : List X) → Apart R (xs ++ ys) → Apart R xs
apart_front R [] ys apart = tt
apart_front R (x ∷ xs) ys apart = (all_front (R x) xs ys apart.0, apart_front R xs ys apart.1)

pub apart_before : {X : Type 0} (R : X → X → Type 0) (before : List X) (x : X) (more : List X) → Apart R (before ++ x ∷ more)
    → AllByRecursion (λ other. R other x) before
apart_before R [] x more apart = tt
apart_before R (y ∷ ys) x more apart = ((all_rest (R y) ys (x ∷ more) apart.0).0, apart_before R ys x more apart.1)
