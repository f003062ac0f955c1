-- What was written to an empty text of fixed capacity is what it holds.
use Rattle.std.proofs.Common.{◌≡◌, ℕ, List, [], ◌++◌, ap, ◌∙◌}
use Rattle.std.specs.Prelude.{Option, Some, None, IfSome}
use Rattle.std.specs.Fmt.{WritesText}
use Rattle.std.proofs.lemmas.Fmt.{contents_after_writes}

pub holds_all : {W : Type 0} (took : W → List ℕ → W → Type 0) (contents : W → List ℕ)
    (appends : (w : W) (bs : List ℕ) (v : W) → took w bs v → contents v ≡ contents w ++ bs) (w v : W) (output : Option (List ℕ))
    → contents w ≡ [] → WritesText took w output v → IfSome output (λ bytes. contents v ≡ bytes)
holds_all took contents appends w v None empty writes = tt
holds_all took contents appends w v (Some bytes) empty writes =
    contents_after_writes took contents appends w bytes v writes ∙ ap (λ text. text ++ bytes) empty
