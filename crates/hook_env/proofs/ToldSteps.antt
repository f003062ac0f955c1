-- What was told so far, one variable more.
use Rattle.std.proofs.Common.{◌≡◌, ◌+◌, ◌<◌, ℕ, List, [], ◌∷◌, ◌++◌, length, take, get_or, flat_map, ap, ◌∙◌}
use Rattle.std.proofs.lemmas.List.{flat_map_more, take_more}

pub told_more : {A B : Type 0} (f : A → List B) (xs : List A) (i : ℕ) (d : A) → i < length xs
    → (old so_far new : List B) → so_far ≡ old ++ flat_map f (take i xs) → new ≡ so_far ++ f (get_or xs i d)
    → new ≡ old ++ flat_map f (take (i + 1) xs)
told_more f xs i d within old so_far new before step =
    step ∙ ap (λ t. t ++ f (get_or xs i d)) before ∙ rw (take_more xs i d within) (flat_map_more f old (take i xs) (get_or xs i d))
