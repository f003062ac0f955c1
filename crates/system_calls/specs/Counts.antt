-- How a device's count of failures goes on.
use Rattle.std.specs.Prelude.{ℕ, ◌<◌, ◌≡◌, Option, None, Some, Result, Ok, Err}
use Rattle.std.specs.declared.io.ErrorKind.{ErrorKind}
use Rattle.world.specs.declared.faults.DeviceAnswer.{DeviceAnswer}
use Rattle.world.specs.declared.faults.DeviceAnswer.TheVariants as Answer

-- A failure is answered where it was counted. Want of memory is none, and the count stands.
abbrev pub Counted : ℕ → ℕ → DeviceAnswer → Type 0
Counted old new Answer.Failed = old < new
Counted old new Answer.NoMemory = new ≡ old

-- What was asked of the system was done, or it gave nothing for some reason, and the device failed.
abbrev pub AnswersAs : {T : Type 0} → Option ErrorKind → Result T DeviceAnswer → Type 0
AnswersAs None (Ok x) = Unit {0}
AnswersAs None (Err answer) = ⊥
AnswersAs (Some kind) (Ok x) = ⊥
AnswersAs (Some kind) (Err answer) = answer ≡ Answer.Failed
