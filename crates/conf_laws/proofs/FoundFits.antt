-- What holds of each of a list holds of what is made of them, or found among them.
use Rattle.std.proofs.Common.{Bool, true, false, cond, List, [], ◌∷◌, ◌++◌, map, find, filter_map, Option, Some, None}
use Rattle.std.specs.Prelude.{IfSome}
use Rattle.std.specs.List.{AllByRecursion, cons_option, filter}
use Rattle.std.specs.Option.{option_or}

pub all_join : {X : Type 0} (P : X → Type 0) (xs ys : List X) → AllByRecursion P xs → AllByRecursion P ys → AllByRecursion P (xs ++ ys)
all_join P [] ys fit others = others
all_join P (x ∷ xs) ys fit others = (fit.0, all_join P xs ys fit.1 others)

pub all_kept : {X : Type 0} (P : X → Type 0) (p : X → Bool) (xs : List X) → AllByRecursion P xs → AllByRecursion P (filter p xs)
all_kept P p [] fit = tt
all_kept P p (x ∷ xs) fit = by (p x) (all_kept P p xs fit.1)
  where
    by : (b : Bool) → AllByRecursion P (filter p xs) → AllByRecursion P (cond b (x ∷ filter p xs) (filter p xs))
    by true later = (fit.0, later)
    by false later = later

pub all_made : {X Y : Type 0} (P : X → Type 0) (Q : Y → Type 0) (f : X → Y) → ((x : X) → P x → Q (f x)) → (xs : List X) → AllByRecursion P xs
    → AllByRecursion Q (map f xs)
all_made P Q f each [] fit = tt
all_made P Q f each (x ∷ xs) fit = (each x fit.0, all_made P Q f each xs fit.1)

with_found_fits : {X : Type 0} (P : X → Type 0) (o : Option X) (xs : List X) → IfSome o P → AllByRecursion P xs → AllByRecursion P (cons_option o xs)
with_found_fits P None xs fits fit = fit
with_found_fits P (Some x) xs fits fit = (fits, fit)

pub found_fit : {C X : Type 0} (f : C → Option X) (Q : C → Type 0) (P : X → Type 0) → ((c : C) → Q c → IfSome (f c) P) → (cs : List C) → AllByRecursion Q cs
    → AllByRecursion P (filter_map f cs)
found_fit f Q P each [] fit = tt
found_fit f Q P each (c ∷ cs) fit = with_found_fits P (f c) (filter_map f cs) (each c fit.0) (found_fit f Q P each cs fit.1)

pub all_found : {C X : Type 0} (f : C → Option X) (P : X → Type 0) → ((c : C) → IfSome (f c) P) → (cs : List C) → AllByRecursion P (filter_map f cs)
all_found f P each [] = tt
all_found f P each (c ∷ cs) = with_found_fits P (f c) (filter_map f cs) (each c) (all_found f P each cs)

pub found_in : {X : Type 0} (P : X → Type 0) (p : X → Bool) (xs : List X) → AllByRecursion P xs → IfSome (find p xs) P
found_in P p [] fit = tt
found_in P p (x ∷ xs) fit = by (p x) (found_in P p xs fit.1)
  where
    by : (b : Bool) → IfSome (find p xs) P → IfSome (cond b (Some x) (find p xs)) P
    by true later = fit.0
    by false later = later

pub either_fits : {X : Type 0} (P : X → Type 0) (block global : Option X) → IfSome block P → IfSome global P → IfSome (option_or block global) P
either_fits P None global fits other = other
either_fits P (Some x) global fits other = fits
