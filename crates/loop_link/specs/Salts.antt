-- The random words of a link, by SplitMix64. A state is one number below 2^64.
use Rattle.std.specs.Prelude.{ℕ, ◌+◌, ◌*◌, ◌/◌, ◌%◌, ◌^◌, bit_xor}
use Rattle.rand_core.specs.Steps.{Steps, steps_u64_high}
use Rattle.loop_link.specs.declared.salts.TheConstants.{STRIDE, FIRST, SECOND}

-- a number with its own high bits, so many places lower, put over its low ones
abbrev pub folded : ℕ → ℕ → ℕ
folded places z = bit_xor z (z / 2 ^ places)

-- the word of a state: folded three times, with a product after the first and the second
abbrev pub word_of : ℕ → ℕ
word_of state = folded 31 (folded 27 (folded 30 state * FIRST % 2 ^ 64) * SECOND % 2 ^ 64)

abbrev pub next_state : ℕ → ℕ
next_state state = (state + STRIDE) % 2 ^ 64

-- the state goes on before the word is taken
abbrev pub salt_step : ℕ → ℕ × ℕ
salt_step state = (word_of (next_state state), next_state state)

-- the three calls of a generator: half a word is its high half
abbrev pub salt_steps : Steps ℕ
salt_steps = steps_u64_high salt_step
