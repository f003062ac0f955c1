-- Texts and what they spell, one by one.
use Rattle.std.specs.Prelude.{List, [], ◌∷◌}

abbrev pub AreSpelled : {T X : Type 0} → (T → X → Type 0) → List T → List X → Type 0
AreSpelled Spells [] [] = Unit {0}
AreSpelled Spells (text ∷ texts) (x ∷ xs) = Spells text x × AreSpelled Spells texts xs
AreSpelled Spells texts xs = ⊥
