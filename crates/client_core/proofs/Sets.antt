-- The places of sets.
use Rattle.std.proofs.Common.{ℕ, zero, suc, ◌≡◌, ◌+◌, ◌-◌, ◌*◌, ◌^◌, ◌/◌, ◌%◌, ◌<◌, ◌≤◌, Bool, true, false, ◌||◌, ◌⊎◌, inl, inr, max, nat_eq, refl, sym, ap, ◌∙◌, arith}
use Rattle.std.specs.Prelude.{nat_le, bit_or}
use Rattle.std.specs.Int.{bit_at, trailing_zeros, w64}
use Rattle.std.proofs.lemmas.Bool.{le-leb, lt-leb, eq-eqb, eqb-true, cases_lt, cases_eq}
use Rattle.std.proofs.lemmas.Nat.Bits.{bit_at_or, bit_at-lt, bit_at_ones, bit_at-zero, bit_at_set_same, bit_at_set_other, bit_at_above, bit_at-trailing_zeros}
use Rattle.std.proofs.lemmas.Nat.{shr-shr}
use Rattle.client_core.specs.declared.places.Places.{Places}
use Rattle.client_core.specs.Places.{has, no_places}

or_true : (b : Bool) → (b || true) ≡ true
or_true true = refl
or_true false = refl

pub has_far : (places : Places) (place : ℕ) → 64 ≤ place → has places place ≡ true
has_far places place far = ap (λ (b : Bool). b || nat_eq (bit_at places.bits place) 1) (le-leb 64 place far)

pub has_all : (places : Places) → places.bits ≡ 2 ^ 64 - 1 → (place : ℕ) → has places place ≡ true
has_all places all place = by (cases_lt place 64)
  where
    by : (place < 64) ⊎ (64 ≤ place) → has places place ≡ true
    by (inl near) =
        ap (λ (b : Bool). nat_le 64 place || b) (eq-eqb (bit_at places.bits place) 1 (ap (λ (bits : ℕ). bit_at bits place) all ∙ bit_at_ones 64 place near))
        ∙ or_true (nat_le 64 place)
    by (inr far) = has_far places place far

pub has_either : (one two : Places) (both : Places) → both.bits ≡ bit_or one.bits two.bits → (place : ℕ) → has both place ≡ (has one place || has two place)
has_either one two both is place =
    ap (λ (bit : ℕ). nat_le 64 place || nat_eq bit 1) (ap (λ (bits : ℕ). bit_at bits place) is ∙ bit_at_or one.bits two.bits place)
    ∙ bits (nat_le 64 place) (bit_at one.bits place) (bit_at two.bits place) (bit_at-lt one.bits place) (bit_at-lt two.bits place)
  where
    bits : (far : Bool) (a b : ℕ) → a < 2 → b < 2 → (far || nat_eq (max a b) 1) ≡ ((far || nat_eq a 1) || (far || nat_eq b 1))
    bits true a b lt less = refl
    bits false zero zero lt less = refl
    bits false zero (suc zero) lt less = refl
    bits false (suc zero) zero lt less = refl
    bits false (suc zero) (suc zero) lt less = refl
    bits false (suc (suc a)) b lt less = absurd (omega arith)
    bits false zero (suc (suc b)) lt less = absurd (omega arith)
    bits false (suc zero) (suc (suc b)) lt less = absurd (omega arith)

pub has_more : (old new : Places) (place : ℕ) → place < 64 → new.bits ≡ bit_or old.bits (1 * 2 ^ place % 2 ^ 64) → (other : ℕ)
    → has new other ≡ (nat_eq other place || has old other)
has_more old new place near is other = by (cases_eq other place)
  where
    by : (other ≡ place) ⊎ (other ≡ place → ⊥) → has new other ≡ (nat_eq other place || has old other)
    by (inl same) =
        ap (λ (b : Bool). nat_le 64 other || b)
        (eq-eqb (bit_at new.bits other) 1
        (ap (λ (bits : ℕ). bit_at bits other) is ∙ ap (bit_at (bit_or old.bits (1 * 2 ^ place % 2 ^ 64))) same ∙ bit_at_set_same w64 old.bits place near))
        ∙ or_true (nat_le 64 other) ∙ sym (ap (λ (b : Bool). b || has old other) (eq-eqb other place same))
    by (inr apart) =
        ap (λ (bit : ℕ). nat_le 64 other || nat_eq bit 1) (ap (λ (bits : ℕ). bit_at bits other) is ∙ bit_at_set_other w64 old.bits place near other apart)
        ∙ sym (ap (λ (b : Bool). b || has old other) (off (nat_eq other place) refl))
      where
        off : (b : Bool) → nat_eq other place ≡ b → b ≡ false
        off true e = absurd (apart (eqb-true other place e))
        off false e = refl

pub more_far : (places : Places) (place : ℕ) → 64 ≤ place → (other : ℕ) → has places other ≡ (nat_eq other place || has places other)
more_far places place far other = by (nat_eq other place) refl
  where
    by : (b : Bool) → nat_eq other place ≡ b → has places other ≡ (b || has places other)
    by true e = let same : other ≡ place = eqb-true other place e in has_far places other (omega arith)
    by false e = refl

-- ---- the bits from a place on

-- what is left of a set from a place on
module _ (places : Places) (from rest : ℕ) (is : rest ≡ places.bits / 2 ^ from) where
  bit_from : (i : ℕ) → bit_at places.bits (from + i) ≡ bit_at rest i
  bit_from i = ap (λ (n : ℕ). n % 2) (sym (shr-shr places.bits from i)) ∙ ap (λ (n : ℕ). bit_at n i) (sym is)

  bit_of : (place : ℕ) → from ≤ place → bit_at places.bits place ≡ bit_at rest (place - from)
  bit_of place le = let apart : place ≡ from + (place - from) = omega arith in ap (bit_at places.bits) apart ∙ bit_from (place - from)

  near_has : (place : ℕ) → place < 64 → has places place ≡ nat_eq (bit_at places.bits place) 1
  near_has place near = ap (λ (b : Bool). b || nat_eq (bit_at places.bits place) 1) (lt-leb 64 place near)

  pub none_from : rest ≡ 0 → (place : ℕ) → from ≤ place → place < 64 → has places place ≡ false
  none_from none place le near =
      near_has place near ∙ ap (λ (bit : ℕ). nat_eq bit 1) (bit_of place le ∙ ap (λ (n : ℕ). bit_at n (place - from)) none ∙ bit_at-zero (place - from))

  module _ (some : 0 < rest) (small : rest < 2 ^ 64) (bits : places.bits < 2 ^ 64) where
    first : (trailing_zeros w64 rest < 64) × (bit_at rest (trailing_zeros w64 rest) ≡ 1) × ((i : ℕ) → i < trailing_zeros w64 rest → bit_at rest i ≡ 0)
    first = bit_at-trailing_zeros w64 rest some small

    one_here : bit_at places.bits (from + trailing_zeros w64 rest) ≡ 1
    one_here = bit_from (trailing_zeros w64 rest) ∙ first.1

    pub found_here : has places (from + trailing_zeros w64 rest) ≡ true
    found_here =
        ap (λ (bit : ℕ). nat_le 64 (from + trailing_zeros w64 rest) || nat_eq bit 1) one_here ∙ or_true (nat_le 64 (from + trailing_zeros w64 rest))

    within : from + trailing_zeros w64 rest < 64
    within = by (cases_lt (from + trailing_zeros w64 rest) 64)
      where
        by : (from + trailing_zeros w64 rest < 64) ⊎ (64 ≤ from + trailing_zeros w64 rest) → from + trailing_zeros w64 rest < 64
        by (inl near) = near
        by (inr far) = let never : 1 ≡ 0 = sym one_here ∙ bit_at_above places.bits 64 (from + trailing_zeros w64 rest) bits far in absurd (omega (arith, never))

    pub none_before : (place : ℕ) → from ≤ place → place < from + trailing_zeros w64 rest → has places place ≡ false
    none_before place le lt =
        near_has place (omega (arith, within)) ∙ ap (λ (bit : ℕ). nat_eq bit 1) (bit_of place le ∙ first.2 (place - from) (omega arith))

pub none_has : (place : ℕ) → place < 64 → has no_places place ≡ false
none_has place near =
    ap (λ (b : Bool). b || nat_eq (bit_at 0 place) 1) (lt-leb 64 place near) ∙ ap (λ (bit : ℕ). nat_eq bit 1) (bit_at-zero place)

pub some_of : (n : ℕ) → (n ≡ 0 → ⊥) → 0 < n
some_of zero none = absurd (none refl)
some_of (suc n) none = omega arith
