-- How a line of a configuration is told: by its number from 1, and those past the greatest 32-bit number by that one.
use Rattle.std.specs.Prelude.{ℕ, ◌^◌, ◌-◌, min}

abbrev pub line_number : ℕ → ℕ
line_number number = min number (2 ^ 32 - 1)
