-- Lists that grow by one at their end, and searches of them.
use Rattle.std.proofs.Common.{◌≡◌, ℕ, suc, ◌+◌, ◌<◌, ◌≤◌, nat_lt, Bool, true, false, not, ◌||◌, cond, List, [], ◌∷◌, ◌++◌, length, map, filter_map, Option, Some, None, option_map, refl, sym, ap, ◌∙◌, arith}
use Rattle.std.specs.List.{cons_option, flat_map, last_or, list_any, position, prefix_len}
use Rattle.std.specs.Option.{option_or}
use Rattle.std.proofs.lemmas.Bool.{le-ltb, lt-ltb, ltb-false, ltb-true}
use Rattle.std.proofs.lemmas.Grind.{flat_map-append}
use Rattle.std.proofs.lemmas.List.{append-nil}
use Rattle.std.proofs.lemmas.List.Elements.{filter_map-append}
use Rattle.conf_scopes.specs.ScopeSteps.{list_with, list_on}
use Rattle.conf_text.specs.Steps.{first_place}

-- ---- one more at the end

with_option : {X Y : Type 0} (value : List X → Y) (step : Y → Option X → Y) → ((xs : List X) → step (value xs) None ≡ value xs)
    → ((xs : List X) (x : X) → value (xs ++ x ∷ []) ≡ step (value xs) (Some x)) → (o : Option X) (xs : List X)
    → value (xs ++ cons_option o []) ≡ step (value xs) o
with_option value step none some None xs = ap value (append-nil xs) ∙ sym (none xs)
with_option value step none some (Some x) xs = some xs x

-- a value of what a reading finds in a list, which takes one more by a step, takes what is found in one more by that step
pub with_found : {C X Y : Type 0} (f : C → Option X) (value : List X → Y) (step : Y → Option X → Y) → ((xs : List X) → step (value xs) None ≡ value xs)
    → ((xs : List X) (x : X) → value (xs ++ x ∷ []) ≡ step (value xs) (Some x)) → (cs : List C) (c : C)
    → value (filter_map f (cs ++ c ∷ [])) ≡ step (value (filter_map f cs)) (f c)
with_found f value step none some cs c = ap value (filter_map-append f cs (c ∷ [])) ∙ with_option value step none some (f c) (filter_map f cs)

pub last_or_more : {X : Type 0} (o : Option X) (xs : List X) (x : X) → last_or o (xs ++ x ∷ []) ≡ Some x
last_or_more o [] x = refl
last_or_more o (y ∷ xs) x = last_or_more (Some y) xs x

pub last_found : {C X : Type 0} (f : C → Option X) (cs : List C) (c : C)
    → last_or None (filter_map f (cs ++ c ∷ [])) ≡ option_or (f c) (last_or None (filter_map f cs))
last_found f cs c = with_found f (last_or None) (λ y o. option_or o y) (λ xs. refl) (last_or_more None) cs c

pub list_found : {C X : Type 0} (f : C → Option X) (cs : List C) (c : C) → filter_map f (cs ++ c ∷ []) ≡ list_with (filter_map f cs) (f c)
list_found {X = X} f cs c = with_found f (λ (xs : List X). xs) list_with (λ xs. refl) (λ xs x. refl) cs c

pub lists_more : {X : Type 0} (xss : List (List X)) (xs : List X) → flat_map (λ (ys : List X). ys) (xss ++ xs ∷ []) ≡ flat_map (λ (ys : List X). ys) xss ++ xs
lists_more {X} xss xs = flat_map-append (λ (ys : List X). ys) xss (xs ∷ []) ∙ ap (λ (zs : List X). flat_map (λ (ys : List X). ys) xss ++ zs) (append-nil xs)

pub lists_found : {C X : Type 0} (f : C → Option (List X)) (cs : List C) (c : C)
    → flat_map (λ (ys : List X). ys) (filter_map f (cs ++ c ∷ [])) ≡ list_on (flat_map (λ (ys : List X). ys) (filter_map f cs)) (f c)
lists_found {X = X} f cs c = with_found f (flat_map (λ (ys : List X). ys)) list_on (λ xs. refl) lists_more cs c

-- ---- searches

pub mapped_both : {X Y Z : Type 0} (f : Y → Z) (g : X → Y) (xs ys : List X) → map (λ x. f (g x)) xs ++ map (λ x. f (g x)) ys ≡ map f (map g xs ++ map g ys)
mapped_both f g [] [] = refl
mapped_both f g [] (y ∷ ys) = ap (λ zs. f (g y) ∷ zs) (mapped_both f g [] ys)
mapped_both f g (x ∷ xs) ys = ap (λ zs. f (g x) ∷ zs) (mapped_both f g xs ys)

one_on : (at size : ℕ) → nat_lt (1 + at) (suc size) ≡ nat_lt at size
one_on at size =
    elim (nat_lt at size) as (λ b. nat_lt at size ≡ b → nat_lt (1 + at) (suc size) ≡ b) [
      | true ↦ (λ e. let below : at < size = ltb-true at size e in lt-ltb (1 + at) (suc size) (omega arith))
      | false ↦ (λ e. let above : size ≤ at = ltb-false at size e in le-ltb (1 + at) (suc size) (omega arith))
    ]
    refl

place_later : (b : Bool) (at : ℕ) → cond b (Some (1 + at)) None ≡ option_map suc (cond b (Some at) None)
place_later true at = ap (λ n. Some n) (omega arith)
place_later false at = refl

place_step : (b : Bool) (at size : ℕ) (o : Option ℕ) → cond (nat_lt at size) (Some at) None ≡ o
    → cond (nat_lt (cond (not b) (1 + at) 0) (suc size)) (Some (cond (not b) (1 + at) 0)) None ≡ cond b (Some 0) (option_map suc o)
place_step true at size o same = let first : nat_lt 0 (suc size) ≡ true = lt-ltb 0 (suc size) (omega arith) in ap (λ b. cond b (Some 0) None) first
place_step false at size o same = ap (λ b. cond b (Some (1 + at)) None) (one_on at size) ∙ place_later (nat_lt at size) at ∙ ap (λ p. option_map suc p) same

pub position_is : {X : Type 0} (p : X → Bool) (xs : List X) → position p xs ≡ first_place p xs
position_is p [] = refl
position_is p (x ∷ xs) = place_step (p x) (prefix_len (λ y. not (p y)) xs) (length xs) (first_place p xs) (position_is p xs)

pub first_place_map : {X Y : Type 0} (p : Y → Bool) (g : X → Y) (xs : List X) → first_place p (map g xs) ≡ first_place (λ x. p (g x)) xs
first_place_map p g [] = refl
first_place_map p g (x ∷ xs) = ap (λ o. cond (p (g x)) (Some 0) (option_map suc o)) (first_place_map p g xs)
