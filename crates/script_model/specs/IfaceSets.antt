-- Sets of interfaces, given by the bits of a number.
use Rattle.std.specs.Prelude.{ℕ, ◌-◌, ◌/◌, ◌%◌, ◌^◌, Bool, ◌==◌}

-- whether a set of interfaces has this one
abbrev pub is_in : ℕ → ℕ → Bool
is_in set index = set / 2 ^ (index - 1) % 2 == 1

-- whether an interface has carrier at the start
abbrev pub is_up : ℕ → ℕ → Bool
is_up up index = is_in up index
