-- Moments, in milliseconds since 1970: of fifteen digits at most, which is the year 33658.
use Rattle.std.specs.Prelude.{ℕ, ◌<◌, ◌^◌}

-- a number that is a moment; the code has the limit as `MOMENT_LIMIT`
abbrev pub IsMoment : ℕ → Type 0
IsMoment at = at < 10 ^ 15
