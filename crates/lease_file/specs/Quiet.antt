-- A store that holds no file and fails no call.
use Rattle.std.specs.Prelude.{◌≡◌, [], Option, Some, IsSomeAnd}
use Rattle.world.specs.StoreFails.{StoreFails, never_fails}
use Rattle.world.specs.StoreCalls.{StoreTold}

pub record IsQuiet (failing : Option StoreFails) (told : Option StoreTold) : Type 0 where
  pub unfailing : failing ≡ Some never_fails
  pub empty : IsSomeAnd told (λ t. t.files ≡ [])
