-- The addresses of a value, four bytes at a time.
use Rattle.std.proofs.Common.{◌≡◌, ℕ, ◌<◌, ◌≤◌, List, [], ◌∷◌, length, take, drop, refl, arith}
use Rattle.v4_options.specs.Numbers.{address, addresses}

pub more_addresses : (value : List ℕ) → 4 ≤ length value → addresses value ≡ address (take 4 value) ∷ addresses (drop 4 value)
unfolding addresses
more_addresses [] h = absurd (omega arith)
more_addresses (a ∷ []) h = absurd (omega arith)
more_addresses (a ∷ b ∷ []) h = absurd (omega arith)
more_addresses (a ∷ b ∷ c ∷ []) h = absurd (omega arith)
more_addresses (a ∷ b ∷ c ∷ d ∷ rest) h = refl

pub no_addresses : (value : List ℕ) → length value < 4 → addresses value ≡ []
unfolding addresses
no_addresses [] h = refl
no_addresses (a ∷ []) h = refl
no_addresses (a ∷ b ∷ []) h = refl
no_addresses (a ∷ b ∷ c ∷ []) h = refl
no_addresses (a ∷ b ∷ c ∷ d ∷ rest) h = absurd (omega arith)
