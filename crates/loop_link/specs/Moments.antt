-- The moments that the loopback link tells, in milliseconds since 1970. The first of a life is the wall clock's; each
-- later one is that and what has passed since, by a clock that nobody sets.
use Rattle.std.specs.Prelude.{ℕ, ◌+◌, ◌-◌, ◌/◌, ◌^◌, min, max}

-- the moment of a life that began at a moment, when the other clock read so many nanoseconds as it does now
abbrev pub moment_at : (begun since now : ℕ) → ℕ
moment_at begun since now = min (begun + (now - since) / 1_000_000) (2 ^ 64 - 1)

-- no moment is before the last one
abbrev pub next_moment : (last begun since now : ℕ) → ℕ
next_moment last begun since now = max last (moment_at begun since now)
