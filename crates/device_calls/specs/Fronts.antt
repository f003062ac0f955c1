-- What was asked up to a moment: whatever was answered, and wherever it was cut off.
use Rattle.std.specs.Prelude.{◌≡◌, List, [], ◌∷◌}
use Rattle.device_calls.specs.Calls.{Call, AnswerTo, made}
use Rattle.device_calls.specs.Programs.{Asks, Done, Then}
use Rattle.device_calls.specs.Worlds.{Seen}
use Rattle.device_calls.specs.Telling.{Tells}

-- These questions were asked first, each answered so; what was to follow wasn't asked.
abbrev pub Fronts : {A : Type 0} → Asks A → List Call → Type 0
Fronts (Done x) [] = Unit {0}
Fronts (Done x) (call ∷ calls) = ⊥
Fronts (Then ask next) [] = Unit {0}
Fronts (Then ask next) (call ∷ calls) = (answer : AnswerTo ask) × (call ≡ made ask answer) × Fronts (next answer) calls

-- The questions were begun, and no other call was made: the devices that tell their calls tell these.
pub record HasBegun {A : Type 0} (asks : Asks A) (old new : Seen) : Type 0 where
  pub calls : List Call
  pub front : Fronts asks calls
  pub tells : Tells old new calls
