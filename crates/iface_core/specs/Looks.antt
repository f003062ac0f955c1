-- How often interfaces were asked when they are due.
use Rattle.std.specs.Prelude.{ℕ, ◌+◌, ◌-◌, ◌^◌, min}

-- so many times more, as far as that can be counted
abbrev pub looked : (times : ℕ) → (looks : ℕ) → ℕ
looked times looks = min (looks + times) (2 ^ 64 - 1)
