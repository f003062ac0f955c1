-- Laws on the times of a message.
use Rattle.std.proofs.Common.{◌≡◌, ℕ, ◌+◌, ◌*◌, ◌/◌, ◌<◌, ◌≤◌, List, [], ◌∷◌, length, map, min, refl, ap, ◌∙◌, arith}
use Rattle.std.specs.List.{AllByRecursion}
use Rattle.std.proofs.lemmas.Bool.Decides.{nat_tests}
use Rattle.std.proofs.lemmas.Nat.{mul-le}
use Rattle.v6_retrans.specs.declared.parameters.Parameters.{Parameters}
use Rattle.v6_retrans.specs.declared.retrans.Retrans.{Retrans}
use Rattle.v6_retrans.specs.Retransmission.{spread, doubled, bounded, next_time, first_said, said_again, most_sent}
use Rattle.v6_retrans.specs.Times.{times_after, sayings_after, FollowsTimes, last_of, CountsSayings, AreRands, BoundedTimes}

later_times : (r : Retrans) (rands : List ℕ) → map (λ s. s.rt) (sayings_after r rands) ≡ times_after r.parameters r.rt rands
later_times r [] = refl
later_times r (rand ∷ rands) = ap (λ (more : List ℕ). next_time r.parameters r.rt rand ∷ more) (later_times (said_again r rand) rands)

pub follows : FollowsTimes
follows p [] = refl
follows p (rand ∷ rands) = ap (λ (more : List ℕ). spread p.irt rand ∷ more) (later_times (first_said p rand) rands)

later_count : (r : Retrans) (rands : List ℕ) → r.sent ≤ most_sent → (last_of r (sayings_after r rands)).sent ≡ min (r.sent + length rands) most_sent
later_count r [] fits = omega (arith, fits)
later_count r (rand ∷ rands) fits =
    let more = later_count (said_again r rand) rands (omega arith) in
    more ∙ omega (arith, fits)

pub counts : CountsSayings
counts p rand rands = later_count (first_said p rand) rands (omega arith)

spread_most : (time most rand : ℕ) → time ≤ most → rand ≤ 200 → spread time rand ≤ most * 1100 / 1000
spread_most time most rand below small =
    let product : time * (900 + rand) ≤ most * 1100 = mul-le time (900 + rand) most 1100 below (omega (arith, small)) in
    omega (arith, product)

-- a further time, whatever the one before
pub next_most : (mrt rand rt : ℕ) → 0 < mrt → rand ≤ 200 → bounded mrt rand rt ≤ mrt * 1100 / 1000
next_most mrt rand rt some small =
    let most = spread_most mrt mrt rand (omega arith) small in
    let plain : mrt ≤ mrt * 1100 / 1000 = omega arith in
    grind (arith, nat_tests, most, plain)

later_bound : (p : Parameters) (rt : ℕ) (rands : List ℕ) → 0 < p.mrt → AreRands rands → AllByRecursion (λ t. t ≤ p.mrt * 1100 / 1000) (times_after p rt rands)
later_bound p rt [] some small = tt
later_bound p rt (rand ∷ rands) some small = (next_most p.mrt rand (doubled rt rand) some small.0, later_bound p (next_time p rt rand) rands some small.1)

pub bounds : BoundedTimes
bounds p [] some first small = tt
bounds p (rand ∷ rands) some first small = (spread_most p.irt p.mrt rand first small.0, later_bound p (spread p.irt rand) rands some small.1)
