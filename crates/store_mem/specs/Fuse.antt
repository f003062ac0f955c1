-- A fuse: how many more calls a store passes before each call fails.
use Rattle.std.specs.Prelude.{ℕ, ◌+◌, Option, Some, None}

-- the number of the first call that it stops, when so many were answered before
abbrev pub first_stopped : (answered : ℕ) → (calls : Option ℕ) → Option ℕ
first_stopped answered None = None
first_stopped answered (Some calls) = Some (answered + calls + 1)
