-- What a device has the system do: the calls with their answers, the last one first.
use Rattle.std.specs.Prelude.{◌≡◌, List, ◌++◌, Option, None, Some, Result, Ok, Err}
use Rattle.std.specs.declared.io.ErrorKind.{ErrorKind}
use Rattle.std.specs.declared.io.ErrorKind.TheVariants as kind
use Rattle.world.specs.declared.faults.DeviceAnswer.{DeviceAnswer}
use Rattle.world.specs.declared.faults.DeviceAnswer.TheVariants as Answer

-- These calls were made since, and no other. Where no calls are told before, none are afterwards.
abbrev pub Does : {C : Type 0} → List C → Option (List C) → Option (List C) → Type 0
Does made None new = new ≡ None
Does made (Some calls) new = new ≡ Some (made ++ calls)

-- why a call gave nothing; nothing where it was done
abbrev pub failure_of : {T : Type 0} → Result T ErrorKind → Option ErrorKind
failure_of (Ok x) = None
failure_of (Err kind) = Some kind

-- what a failure that changed nothing is to a device: memory is wanted, or it failed
abbrev pub reason_of : ErrorKind → DeviceAnswer
reason_of kind.OutOfMemory = Answer.NoMemory
reason_of failure = Answer.Failed

-- A device answers by what it asked of the system: that was done, or gave nothing for some reason. For want of memory
-- nothing is asked.
abbrev pub Answered : {T : Type 0} → (asked : Option ErrorKind → Type 0) → (unasked : Type 0) → Result T DeviceAnswer
    → Type 0
Answered asked unasked (Ok x) = asked None
Answered asked unasked (Err Answer.Failed) = (kind : ErrorKind) × asked (Some kind)
Answered asked unasked (Err Answer.NoMemory) = unasked
