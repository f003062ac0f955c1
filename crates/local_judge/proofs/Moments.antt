-- Moments that may be there: the earlier one of two is so long ago exactly where one of them is.
use Rattle.std.proofs.Common.{◌≡◌, ℕ, ◌+◌, ◌≤◌, Bool, true, false, ◌&&◌, ◌⊎◌, inl, inr, nat_le, if◌then◌else◌, Option, Some, None, refl, arith}
use Rattle.std.proofs.lemmas.Bool.Decides.{nat_tests}
use Rattle.probe_table.specs.ProbeTimes.{earlier_of, only_if, is_past}

pub at_most : (m n : ℕ) → nat_le m n ≡ true → m ≤ n
at_most m n h = grind (arith, nat_tests)

pub tested : (m n : ℕ) → m ≤ n → nat_le m n ≡ true
tested m n h = grind (arith, nat_tests)

sooner_past : (one other wait now : ℕ) → nat_le one other ≡ true → nat_le (other + wait) now ≡ true → nat_le (one + wait) now ≡ true
sooner_past one other wait now order h = grind (arith, nat_tests)

later_past : (one other wait now : ℕ) → nat_le one other ≡ false → nat_le (one + wait) now ≡ true → nat_le (other + wait) now ≡ true
later_past one other wait now order h = grind (arith, nat_tests)

-- of the earlier one it is told which of the two it is
pub either_past : (wait now : ℕ) (one other : Option ℕ) → is_past wait (earlier_of one other) now ≡ true
    → (is_past wait one now ≡ true) ⊎ (is_past wait other now ≡ true)
either_past wait now None other h = inr h
either_past wait now (Some one) None h = inl h
either_past wait now (Some one) (Some other) h = which (nat_le one other) h
  where
    which : (b : Bool) → is_past wait (Some (if b then one else other)) now ≡ true → (nat_le (one + wait) now ≡ true) ⊎ (nat_le (other + wait) now ≡ true)
    which true k = inl k
    which false k = inr k

pub one_past : (wait now : ℕ) (one other : Option ℕ) → is_past wait one now ≡ true → is_past wait (earlier_of one other) now ≡ true
one_past wait now None other h = absurd cc
one_past wait now (Some one) None h = h
one_past wait now (Some one) (Some other) h = which (nat_le one other) refl
  where
    which : (b : Bool) → nat_le one other ≡ b → is_past wait (Some (if b then one else other)) now ≡ true
    which true order = h
    which false order = later_past one other wait now order h

pub other_past : (wait now : ℕ) (one other : Option ℕ) → is_past wait other now ≡ true → is_past wait (earlier_of one other) now ≡ true
other_past wait now None other h = h
other_past wait now (Some one) None h = absurd cc
other_past wait now (Some one) (Some other) h = which (nat_le one other) refl
  where
    which : (b : Bool) → nat_le one other ≡ b → is_past wait (Some (if b then one else other)) now ≡ true
    which true order = sooner_past one other wait now order h
    which false order = h

-- a moment that counts if a test holds
pub counted : (test : Bool) (wait now : ℕ) (moment : Option ℕ) → is_past wait (only_if test moment) now ≡ true
    → (test ≡ true) × (is_past wait moment now ≡ true)
counted true wait now moment h = (refl, h)
counted false wait now moment h = absurd cc

pub counts : (test : Bool) (wait now : ℕ) (moment : Option ℕ) → test ≡ true → is_past wait moment now ≡ true → is_past wait (only_if test moment) now ≡ true
counts true wait now moment holds h = h
counts false wait now moment holds h = absurd cc

pub both : (a b : Bool) → a ≡ true → b ≡ true → (a && b) ≡ true
both true b one other = other
both false b one other = one

pub parts : (a b : Bool) → (a && b) ≡ true → (a ≡ true) × (b ≡ true)
parts true b h = (refl, h)
parts false b h = absurd cc
