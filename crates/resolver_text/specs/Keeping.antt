-- Texts that are kept while one after another is read.
use Rattle.std.specs.Prelude.{◌≡◌, ℕ, List, ◌++◌, take}
use Rattle.resolver_text.specs.Texts.{unlike}

-- the first unlike ones of some texts become the first unlike ones of those and more
abbrev pub KeepsOn : ℕ → List (List ℕ) → List (List ℕ) → List (List ℕ) → Type 0
KeepsOn limit more old new =
    (texts : List (List ℕ)) → old ≡ take limit (unlike texts) → new ≡ take limit (unlike (texts ++ more))
