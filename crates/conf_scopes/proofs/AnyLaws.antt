-- A search of two lists, one after the other.
use Rattle.std.proofs.Common.{◌≡◌, Bool, ◌||◌, List, [], ◌∷◌, ◌++◌, map, refl, ap, ◌∙◌}
use Rattle.std.specs.List.{list_any}
use Rattle.std.proofs.lemmas.List.Folds.{list_any-append}

pub any_in_map : {X Y : Type 0} (p : Y → Bool) (g : X → Y) (xs : List X) → list_any p (map g xs) ≡ list_any (λ x. p (g x)) xs
any_in_map p g [] = refl
any_in_map p g (x ∷ xs) = ap (λ b. p (g x) || b) (any_in_map p g xs)

pub any_of_both : {X Y : Type 0} (p : Y → Bool) (g : X → Y) (xs ys : List X)
    → list_any p (map g xs ++ map g ys) ≡ (list_any (λ x. p (g x)) xs || list_any (λ x. p (g x)) ys)
any_of_both p g xs ys =
    list_any-append p (map g xs) (map g ys) ∙ ap (λ b. b || list_any p (map g ys)) (any_in_map p g xs)
    ∙ ap (λ b. list_any (λ x. p (g x)) xs || b) (any_in_map p g ys)
