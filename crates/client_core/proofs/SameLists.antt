-- Lists that compare as equal are equal.
use Rattle.std.proofs.Common.{◌≡◌, Bool, true, false, List, [], ◌∷◌, map, refl, sym, ap, ap₂, ◌∙◌, subst}
use Rattle.std.specs.Cmp.Lexicographic.{pointwise}
use Rattle.std.proofs.lemmas.Bool.{and_from, and_parts}

module _ {X Y : Type 0} (f : X → Y) (E : X → X → Bool) where
  alike : ((a b : X) → E a b ≡ true → f a ≡ f b) → (xs ys : List X) → pointwise E xs ys ≡ true → map f xs ≡ map f ys
  alike same [] [] e = refl
  alike same [] (y ∷ ys) e = let never : false ≡ true = e in cc
  alike same (x ∷ xs) [] e = let never : false ≡ true = e in cc
  alike same (x ∷ xs) (y ∷ ys) e =
      let parts = and_parts (E x y) _ e in
      ap₂ (λ (b : Y) (bs : List Y). b ∷ bs) (same x y parts.0) (alike same xs ys parts.1)

  told : ((a b : X) → f a ≡ f b → E a b ≡ true) → (xs ys : List X) → map f xs ≡ map f ys → pointwise E xs ys ≡ true
  told same [] [] e = refl
  told same [] (y ∷ ys) e = cc
  told same (x ∷ xs) [] e = cc
  told same (x ∷ xs) (y ∷ ys) e =
      let head : f x ≡ f y = cc in
      let rest : map f xs ≡ map f ys = cc in
      and_from (E x y) _ (same x y head) (told same xs ys rest)

  -- where the elements compare as what is seen of them does, so do the lists
  pub same_lists : ((a b : X) → E a b ≡ true → f a ≡ f b) → ((a b : X) → f a ≡ f b → E a b ≡ true)
      → (r : Bool) (xs ys : List X) → r ≡ pointwise E xs ys → (r ≡ true → map f xs ≡ map f ys) × (map f xs ≡ map f ys → r ≡ true)
  same_lists sound whole r xs ys is = (λ yes. alike sound xs ys (sym is ∙ yes), λ same. is ∙ told whole xs ys same)

map_itself : {X : Type 0} (xs : List X) → map (λ x. x) xs ≡ xs
map_itself [] = refl
map_itself (x ∷ xs) = ap (λ ys. x ∷ ys) (map_itself xs)

pub same_items : {X : Type 0} (E : X → X → Bool) → ((a b : X) → E a b ≡ true → a ≡ b) → ((a b : X) → a ≡ b → E a b ≡ true)
    → (r : Bool) (xs ys : List X) → r ≡ pointwise E xs ys → (r ≡ true → xs ≡ ys) × (xs ≡ ys → r ≡ true)
same_items E sound whole r xs ys is =
    subst (λ (vs : List _). (r ≡ true → vs ≡ ys) × (vs ≡ ys → r ≡ true)) (map_itself xs)
    (subst (λ (ws : List _). (r ≡ true → map (λ x. x) xs ≡ ws) × (map (λ x. x) xs ≡ ws → r ≡ true)) (map_itself ys)
    (same_lists (λ x. x) E sound whole r xs ys is))
