-- The times of a message that is said once for each RAND, and laws on them.
use Rattle.std.specs.Prelude.{◌≡◌, ℕ, ◌+◌, ◌*◌, ◌/◌, ◌<◌, ◌≤◌, List, [], ◌∷◌, length, map, min}
use Rattle.std.specs.List.{AllByRecursion}
use Rattle.v6_retrans.specs.declared.parameters.Parameters.{Parameters}
use Rattle.v6_retrans.specs.declared.retrans.Retrans.{Retrans}
use Rattle.v6_retrans.specs.Retransmission.{spread, next_time, first_said, said_again, most_sent}

-- the times that follow one
abbrev pub times_after : Parameters → (rt : ℕ) → (rands : List ℕ) → List ℕ
times_after p rt [] = []
times_after p rt (rand ∷ rands) = next_time p rt rand ∷ times_after p (next_time p rt rand) rands

abbrev pub times : Parameters → (rands : List ℕ) → List ℕ
times p [] = []
times p (rand ∷ rands) = spread p.irt rand ∷ times_after p (spread p.irt rand) rands

-- the message each time that it was said
abbrev pub sayings_after : Retrans → (rands : List ℕ) → List Retrans
sayings_after r [] = []
sayings_after r (rand ∷ rands) = said_again r rand ∷ sayings_after (said_again r rand) rands

abbrev pub sayings : Parameters → (rands : List ℕ) → List Retrans
sayings p [] = []
sayings p (rand ∷ rands) = first_said p rand ∷ sayings_after (first_said p rand) rands

-- ---- laws

abbrev pub FollowsTimes : Type 0
FollowsTimes = (p : Parameters) (rands : List ℕ) → map (λ r. r.rt) (sayings p rands) ≡ times p rands

-- the last of some sayings
abbrev pub last_of : Retrans → List Retrans → Retrans
last_of r [] = r
last_of r (later ∷ sayings) = last_of later sayings

abbrev pub CountsSayings : Type 0
CountsSayings =
    (p : Parameters) (rand : ℕ) (rands : List ℕ)
    → (last_of (first_said p rand) (sayings_after (first_said p rand) rands)).sent ≡ min (1 + length rands) most_sent

abbrev pub AreRands : List ℕ → Type 0
AreRands rands = AllByRecursion (λ rand. rand ≤ 200) rands

abbrev pub BoundedTimes : Type 0
BoundedTimes = (p : Parameters) (rands : List ℕ) → 0 < p.mrt → p.irt ≤ p.mrt → AreRands rands
    → AllByRecursion (λ rt. rt ≤ p.mrt * 1100 / 1000) (times p rands)
