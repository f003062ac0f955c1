-- What is found of a code's values.
use Rattle.std.specs.Prelude.{ℕ, ◌≡◌, ◌≤◌, List, [], ◌∷◌, length}
use Rattle.option_index.specs.declared.index.Found.{Found}
use Rattle.option_index.specs.declared.index.Found.TheVariants.{Absent, Whole, Split}

abbrev pub IsFound : List (List ℕ) → Found → Type 0
IsFound pieces Absent = pieces ≡ []
IsFound pieces (Whole value) = pieces ≡ value.now ∷ []
IsFound pieces Split = 2 ≤ length pieces
