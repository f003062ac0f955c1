use Rattle.std.specs.Prelude.{◌≡◌, ℕ, Bool, false, Option, Some, None, nat_le, min, refl}
use Rattle.std.proofs.Common.{arith}
use Rattle.std.proofs.lemmas.Bool.Decides.{nat_tests}

-- The moment that a machine is told: at most the last one, 10^15 - 1.
abbrev pub moment_of : ℕ → ℕ
moment_of at = min at 999999999999999

-- Whether a machine's moment has come: it waits for one, and that isn't above `at`.
abbrev pub is_due : Option ℕ → ℕ → Bool
is_due None at = false
is_due (Some due) at = nat_le due at

later : (due at : ℕ) → nat_le due at ≡ false → nat_le due (min at 999999999999999) ≡ false
later due at h = grind (arith, nat_tests)

-- What isn't due at a moment isn't due at the moment that the machine is told.
pub not_due-moment_of : (due : Option ℕ) (at : ℕ) → is_due due at ≡ false → is_due due (moment_of at) ≡ false
not_due-moment_of None at h = refl
not_due-moment_of (Some due) at h = later due at h
