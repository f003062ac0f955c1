-- A text that begins with parts, one after another. `Begins text part rest` says that the text is one part and then the
-- rest.
use Rattle.std.specs.Prelude.{◌≡◌, ℕ, List, [], ◌∷◌}

abbrev pub Leads : {X : Type 0} → (List ℕ → X → List ℕ → Type 0) → List X → List ℕ → List ℕ → Type 0
Leads Begins [] text rest = text ≡ rest
Leads Begins (part ∷ parts) text rest = (after : List ℕ) × Begins text part after × Leads Begins parts after rest
