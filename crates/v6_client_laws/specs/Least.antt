-- The least of the numbers of which something is so.
use Rattle.std.specs.Prelude.{ℕ, ◌≤◌, Option, Some, None}

pub record IsLeast (P : ℕ → Type 0) (n : ℕ) : Type 0 where
  pub is : P n
  pub least : (other : ℕ) → P other → n ≤ other

-- none where it is so of none
abbrev pub LeastOf : (P : ℕ → Type 0) → Option ℕ → Type 0
LeastOf P None = (n : ℕ) → P n → ⊥
LeastOf P (Some n) = IsLeast P n
