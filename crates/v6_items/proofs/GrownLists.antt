-- Lists that grow by what is made of one element after another.
use Rattle.std.proofs.Common.{◌≡◌, ℕ, zero, suc, ◌+◌, ◌<◌, List, [], ◌∷◌, ◌++◌, length, map, take, get_or, refl, sym, ◌∙◌, ap, subst}
use Rattle.std.specs.List.{flat_map}
use Rattle.std.proofs.lemmas.List.{flat_map_more, map_more, map_push, take_more}

pub pieces_more : {X Y : Type 0} (f : X → List Y) (xs : List X) (i : ℕ) (d : X) (some more : List Y) → i < length xs
    → some ≡ flat_map f (take i xs) → more ≡ some ++ f (get_or xs i d) → more ≡ flat_map f (take (i + 1) xs)
pieces_more f xs i d some more below so_far adds =
    adds ∙ ap (λ s. s ++ f (get_or xs i d)) so_far ∙ flat_map_more f [] (take i xs) (get_or xs i d)
    ∙ ap (flat_map f) (sym (take_more xs i d below))

pub mapped_more : {X Y : Type 0} (f : X → Y) (xs : List X) (i : ℕ) (d : X) (some more : List Y) → i < length xs
    → some ≡ map f (take i xs) → more ≡ some ++ f (get_or xs i d) ∷ [] → more ≡ map f (take (i + 1) xs)
mapped_more f xs i d some more below so_far adds = adds ∙ ap (λ s. s ++ f (get_or xs i d) ∷ []) so_far ∙ sym (map_more f xs i d below)

-- what goes past the n-th element has no part in the front
pub take_front : {X : Type 0} (n : ℕ) (xs ys : List X) → take n (take n xs ++ ys) ≡ take n (xs ++ ys)
take_front zero xs ys = refl
take_front (suc n) [] ys = refl
take_front (suc n) (x ∷ xs) ys = ap (λ zs. x ∷ zs) (take_front n xs ys)

take_own : {X : Type 0} (xs ys : List X) → take (length xs) (xs ++ ys) ≡ xs
take_own [] ys = refl
take_own (x ∷ xs) ys = ap (λ zs. x ∷ zs) (take_own xs ys)

-- a list of n elements is the front of what it goes on in
pub take_full : {X : Type 0} (n : ℕ) (xs ys : List X) → length xs ≡ n → take n (xs ++ ys) ≡ xs
take_full n xs ys e = subst (λ m. take m (xs ++ ys) ≡ xs) e (take_own xs ys)

-- ---- of what is made of contents

pub pieces_of_contents : {X Y Z : Type 0} (g : Y → List Z) (h : X → Y) (xs : List X) (i : ℕ) (d : X) (some more : List Z)
    → i < length xs → some ≡ flat_map g (map h (take i xs)) → more ≡ some ++ g (h (get_or xs i d))
    → more ≡ flat_map g (map h (take (i + 1) xs))
pieces_of_contents g h xs i d some more below so_far adds =
    adds ∙ ap (λ s. s ++ g (h (get_or xs i d))) so_far ∙ flat_map_more g [] (map h (take i xs)) (h (get_or xs i d))
    ∙ ap (flat_map g) (sym (map_more h xs i d below))

pub mapped_contents : {X Y Z : Type 0} (g : Y → Z) (h : X → Y) (xs : List X) (i : ℕ) (d : X) (some more : List Z)
    → i < length xs → some ≡ map g (map h (take i xs)) → more ≡ some ++ g (h (get_or xs i d)) ∷ []
    → more ≡ map g (map h (take (i + 1) xs))
mapped_contents g h xs i d some more below so_far adds =
    adds ∙ ap (λ s. s ++ g (h (get_or xs i d)) ∷ []) so_far ∙ sym (map_push g (map h (take i xs)) (h (get_or xs i d)))
    ∙ ap (map g) (sym (map_more h xs i d below))
