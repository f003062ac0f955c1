-- One call of a saving or a removal, and when it fails.
use Rattle.std.specs.Prelude.{ℕ, ◌≡◌, ◌<◌, Bool, true, false, [], ◌∷◌, Option, Result, Ok, Err}
use Rattle.world.specs.declared.faults.DeviceAnswer.{DeviceAnswer}
use Rattle.world.specs.declared.faults.DeviceAnswer.TheVariants as Answer
use Rattle.world.specs.StoreFails.{StoreFails}
use Rattle.world.specs.StoreCalls.{StoreCall, StoreTold}
use Rattle.file_choices.specs.StoreWalks.{Answered}
use Rattle.lease_file.specs.declared.faults.SaveStep.{SaveStep}
use Rattle.lease_file.specs.declared.faults.SaveFault.{SaveFault}
use Rattle.lease_file.specs.declared.faults.SaveFault.TheVariants.{Failed, NoMemory}

-- what the answer to one step makes of a saving or a removal
abbrev pub done_in_step : SaveStep → Result (Unit {0}) DeviceAnswer → Result (Unit {0}) SaveFault
done_in_step step (Ok x) = Ok x
done_in_step step (Err Answer.Failed) = Err (Failed step)
done_in_step step (Err Answer.NoMemory) = Err NoMemory

-- One call, which tells in its last argument whether it was done. The fault names it, and where memory ran out it
-- wasn't made.
abbrev pub Steps : {T : Type 0} → Option StoreFails → SaveStep → (Bool → StoreCall) → Option StoreTold
    → Option StoreTold → Result T SaveFault → Type 0
Steps failing step call old new (Ok x) = Answered failing (call true ∷ []) old new
Steps failing step call old new (Err (Failed failed)) = (failed ≡ step) × Answered failing (call false ∷ []) old new
Steps failing step call old new (Err NoMemory) = new ≡ old

-- a call fails only where the count of faults rose
abbrev pub HasStepCause : {T : Type 0} → ℕ → ℕ → Result T SaveFault → Type 0
HasStepCause old new (Ok x) = Unit {0}
HasStepCause old new (Err (Failed step)) = old < new
HasStepCause old new (Err NoMemory) = Unit {0}
