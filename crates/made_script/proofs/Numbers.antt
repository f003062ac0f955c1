-- Lists made of the numbers from 1 on, as a loop makes them.
use Rattle.std.proofs.Common.{◌≡◌, ℕ, zero, suc, ◌+◌, ◌-◌, ◌≤◌, ◌<◌, List, [], ◌∷◌, ◌++◌, map, flat_map, sym, ap, ◌∙◌, append_assoc, arith}
use Rattle.std.specs.List.{AllByRecursion}
use Rattle.std.proofs.lemmas.List.{map-append, append-nil}
use Rattle.std.proofs.lemmas.Grind.{flat_map-append}
use Rattle.script_model.specs.Lines.{numbers_from}
use Rattle.net_types.proofs.AllLaws.{all_join}

numbers_more : (first n : ℕ) → numbers_from first (suc n) ≡ numbers_from first n ++ (first + n) ∷ []
numbers_more first zero = ap (λ (m : ℕ). m ∷ []) (omega arith)
numbers_more first (suc n) =
    let on : suc first + n ≡ first + suc n = omega arith in
    ap (λ (rest : List ℕ). first ∷ rest) (numbers_more (suc first) n ∙ ap (λ (m : ℕ). numbers_from (suc first) n ++ m ∷ []) on)

numbers_step : (index : ℕ) → 1 ≤ index → numbers_from 1 ((index + 1) - 1) ≡ numbers_from 1 (index - 1) ++ index ∷ []
numbers_step index some =
    let on : (index + 1) - 1 ≡ suc (index - 1) = omega arith in
    let here : 1 + (index - 1) ≡ index = omega arith in
    ap (numbers_from 1) on ∙ numbers_more 1 (index - 1) ∙ ap (λ (m : ℕ). numbers_from 1 (index - 1) ++ m ∷ []) here

-- one more element of a map
pub more_mapped : {X : Type 0} (f : ℕ → X) (front now : List X) (x : X) (index : ℕ) → 1 ≤ index → now ≡ front ++ map f (numbers_from 1 (index - 1))
    → x ≡ f index
    → now ++ x ∷ [] ≡ front ++ map f (numbers_from 1 ((index + 1) - 1))
more_mapped {X} f front now x index some so_far is =
    ap (λ (xs : List X). xs ++ x ∷ []) so_far
    ∙ ap (λ (y : X). (front ++ map f (numbers_from 1 (index - 1))) ++ y ∷ []) is
    ∙ append_assoc front (map f (numbers_from 1 (index - 1))) (f index ∷ [])
    ∙ ap (λ (xs : List X). front ++ xs) (sym (ap (map f) (numbers_step index some) ∙ map-append f (numbers_from 1 (index - 1)) (index ∷ [])))

-- one more part of lists laid end to end
pub more_joined : {X : Type 0} (g : ℕ → List X) (front now : List X) (index : ℕ) → 1 ≤ index → now ≡ front ++ flat_map g (numbers_from 1 (index - 1))
    → now ++ g index ≡ front ++ flat_map g (numbers_from 1 ((index + 1) - 1))
more_joined {X} g front now index some so_far =
    ap (λ (xs : List X). xs ++ g index) so_far
    ∙ append_assoc front (flat_map g (numbers_from 1 (index - 1))) (g index)
    ∙ ap (λ (xs : List X). front ++ xs)
    (sym (ap (flat_map g) (numbers_step index some) ∙ flat_map-append g (numbers_from 1 (index - 1)) (index ∷ [])
    ∙ ap (λ (xs : List X). flat_map g (numbers_from 1 (index - 1)) ++ xs) (append-nil (g index))))

-- ---- what holds of all

pub mapped_all : {X : Type 0} (P : X → Type 0) (f : ℕ → X) (first n : ℕ) → ((i : ℕ) → first ≤ i → i < first + n → P (f i))
    → AllByRecursion P (map f (numbers_from first n))
mapped_all P f first zero each = tt
mapped_all P f first (suc n) each =
    (each first (omega arith) (omega arith), mapped_all P f (suc first) n (λ i from below. each i (omega arith) (omega arith)))

pub joined_all : {X : Type 0} (P : X → Type 0) (g : ℕ → List X) (first n : ℕ) → ((i : ℕ) → first ≤ i → i < first + n → AllByRecursion P (g i))
    → AllByRecursion P (flat_map g (numbers_from first n))
joined_all P g first zero each = tt
joined_all P g first (suc n) each =
    all_join P (g first) (flat_map g (numbers_from (suc first) n)) (each first (omega arith) (omega arith))
    (joined_all P g (suc first) n (λ i from below. each i (omega arith) (omega arith)))
