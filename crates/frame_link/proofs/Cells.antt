-- A list of six is its cells.
use Rattle.std.proofs.Common.{◌≡◌, ℕ, List, [], ◌∷◌, length, get_or, refl}

abbrev pub six : List ℕ → List ℕ
six m = get_or m 0 0 ∷ get_or m 1 0 ∷ get_or m 2 0 ∷ get_or m 3 0 ∷ get_or m 4 0 ∷ get_or m 5 0 ∷ []

pub six_cells : (m : List ℕ) → length m ≡ 6 → m ≡ six m
six_cells [] e = absurd cc
six_cells (a ∷ []) e = absurd cc
six_cells (a ∷ b ∷ []) e = absurd cc
six_cells (a ∷ b ∷ c ∷ []) e = absurd cc
six_cells (a ∷ b ∷ c ∷ d ∷ []) e = absurd cc
six_cells (a ∷ b ∷ c ∷ d ∷ f ∷ []) e = absurd cc
six_cells (a ∷ b ∷ c ∷ d ∷ f ∷ g ∷ []) e = refl
six_cells (a ∷ b ∷ c ∷ d ∷ f ∷ g ∷ h ∷ more) e = absurd cc
