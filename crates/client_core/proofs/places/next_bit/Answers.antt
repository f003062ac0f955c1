use Rattle.std.proofs.Common.{ℕ, ◌≡◌, ◌+◌, ◌/◌, ◌^◌, ◌<◌, ◌≤◌, true, refl, sym, subst, arith}
use Rattle.std.specs.Int.{trailing_zeros, w64}
use Rattle.std.proofs.lemmas.Nat.{shr_le}
use Rattle.client_core.specs.Places.{has}
use Rattle.client_core.proofs.Sets.{none_from, found_here, none_before, some_of}
use Rattle.client_core.proofs.places.next_bit.Goals as goal

pub returns-then-rest-eq0-clause-skips : goal.returns-then-rest-eq0-clause-skips
returns-then-rest-eq0-clause-skips c =
    λ place le lt. none_from (record { bits = c.args.bits }) c.args.from _ refl c.if-rest-eq0.true place le (omega (arith, c.min.ensures, lt))

pub returns-clause-found : goal.returns-clause-found
returns-clause-found c =
    λ lt.
    let rest : ℕ = c.args.bits / 2 ^ c.args.from in
    let less : rest ≤ c.args.bits = shr_le c.args.bits c.args.from in
    let bits : c.args.bits < 2 ^ 64 = c.ranges.bits.fits in
    let here : c.min-2.result ≡ c.args.from + trailing_zeros w64 rest = omega (arith, c.min-2.ensures, lt) in
    subst (λ (place : ℕ). has (record { bits = c.args.bits }) place ≡ true) (sym here)
    (found_here (record { bits = c.args.bits }) c.args.from rest refl (some_of rest c.if-rest-eq0.false) (omega (arith, less, bits)) bits)

pub returns-clause-skips : goal.returns-clause-skips
returns-clause-skips c =
    λ place le lt.
    let rest : ℕ = c.args.bits / 2 ^ c.args.from in
    let less : rest ≤ c.args.bits = shr_le c.args.bits c.args.from in
    let bits : c.args.bits < 2 ^ 64 = c.ranges.bits.fits in
    let before : place < c.args.from + trailing_zeros w64 rest = omega (arith, c.min-2.ensures, lt) in
    none_before (record { bits = c.args.bits }) c.args.from rest refl (some_of rest c.if-rest-eq0.false) (omega (arith, less, bits)) bits place le before
