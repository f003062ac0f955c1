-- A counted answer is the cause of a call that gave nothing.
use Rattle.std.proofs.Common.{ℕ}
use Rattle.std.specs.Prelude.{Err}
use Rattle.world.specs.declared.faults.DeviceAnswer.{DeviceAnswer}
use Rattle.world.specs.declared.faults.DeviceAnswer.TheVariants as Answer
use Rattle.world.specs.Causes.{HasDeviceCause}
use Rattle.system_calls.specs.Counts.{Counted}

pub counted_cause : (T : Type 0) (old new : ℕ) (answer : DeviceAnswer) → Counted old new answer → HasDeviceCause {T = T} old new (Err answer)
counted_cause T old new Answer.Failed counted = counted
counted_cause T old new Answer.NoMemory counted = counted
