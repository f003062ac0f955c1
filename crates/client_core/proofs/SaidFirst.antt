-- What is said first, of a list in memory that isn't empty.
use Rattle.std.proofs.Common.{ℕ, ◌≡◌, true, false, List, [], ◌∷◌, map, length, nat_eq, refl, sym, ap, subst, ◌∙◌}
use Rattle.client_model.specs.ResolverParts.{first_said}

pub said_first : {X Y : Type 0} (f : X → Y) (xs : List X) (count : ℕ) (first later : List Y)
    → map f xs ≡ first → count ≡ length xs → nat_eq count 0 ≡ false → map f xs ≡ first_said first later
said_first f [] count first later is counted some = let none : true ≡ false = sym (ap (λ n. nat_eq n 0) counted) ∙ some in absurd cc
said_first f (x ∷ xs) count first later is counted some = subst (λ ys. map f (x ∷ xs) ≡ first_said ys later) is refl
