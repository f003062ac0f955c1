-- Lists of texts, and what they view.
use Rattle.std.proofs.Common.{◌≡◌, ℕ, not, ◌&&◌, ◌==◌, List, [], ◌∷◌, length, map, refl, ap, ◌∙◌}
use Rattle.std.proofs.lemmas.List.{length-map}
use Rattle.std.proofs.lemmas.List.Folds.{list_all-map}
use Rattle.std.specs.List.{list_all}
use Rattle.domain_names.specs.NameText.{is_name}
use Rattle.conf_values.specs.Texts.{are_names}

pub map_viewed : {A X Y : Type 0} (f : X → Y) (view : A → X) (xs : List A) → map f (map view xs) ≡ map (λ x. f (view x)) xs
map_viewed f view [] = refl
map_viewed f view (x ∷ xs) = ap (λ ys. f (view x) ∷ ys) (map_viewed f view xs)

pub names_viewed : {A : Type 0} (view : A → List ℕ) (xs : List A) → are_names (map view xs) ≡ (not (length xs == 0) && list_all (λ x. is_name (view x)) xs)
names_viewed view xs =
    ap (λ n. not (n == 0) && list_all is_name (map view xs)) (length-map xs view)
    ∙ ap (λ b. not (length xs == 0) && b) (list_all-map is_name view xs)
