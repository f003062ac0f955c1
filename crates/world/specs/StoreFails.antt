-- Which calls of a store fail.
use Rattle.std.specs.Prelude.{ℕ, Bool, false, ◌||◌, nat_le, List, [], Option, Some, None, Result, option_map}
use Rattle.world.specs.declared.faults.DeviceAnswer.{DeviceAnswer}
use Rattle.world.specs.Causes.{has_number, FailsAsTold}

-- calls by their numbers, from 1 over all lives
pub record StoreFails : Type 0 where
  -- each of these fails
  pub numbers : List ℕ
  -- from this one on every call fails
  pub from : Option ℕ

abbrev pub is_past : Option ℕ → ℕ → Bool
is_past None number = false
is_past (Some first) number = nat_le first number

abbrev pub fails_at : StoreFails → ℕ → Bool
fails_at fails number = has_number fails.numbers number || is_past fails.from number

-- a store that fails no call
abbrev pub never_fails : StoreFails
never_fails = record { numbers = []; from = None }

abbrev pub StoreForetold : {T : Type 0} → Option StoreFails → ℕ → Result T DeviceAnswer → Type 0
StoreForetold failing number = FailsAsTold (option_map (λ fails. fails_at fails number) failing)
