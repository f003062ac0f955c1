-- A reader of whole texts is right by its printer.
use Rattle.std.specs.Prelude.{◌≡◌, ℕ, List, Option, Some}

-- what is read is spelled so, and what is spelled so is read
pub record Reads {X : Type 0} (text_of : X → List ℕ) (Fits : X → Type 0) (found : List ℕ → Option X) : Type 0 where
  pub sound : (text : List ℕ) (x : X) → found text ≡ Some x → (text ≡ text_of x) × Fits x
  pub whole : (x : X) → Fits x → found (text_of x) ≡ Some x
