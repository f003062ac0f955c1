-- Why a device call gave nothing. Each device keeps a count of its faults that never falls.
use Rattle.std.specs.Prelude.{ℕ, List, ◌<◌, ◌≤◌, ◌≡◌, ◌==◌, Bool, true, false, Option, Some, None, Result, Ok, Err, option_map}
use Rattle.std.specs.List.{list_any}
use Rattle.net_types.specs.declared.fault.Failed.{Failed}
use Rattle.net_types.specs.declared.fault.NoMemory.{NoMemory}
use Rattle.world.specs.declared.faults.DeviceAnswer.{DeviceAnswer}
use Rattle.world.specs.declared.faults.DeviceAnswer.TheVariants as Answer

-- a call that takes no memory answers Failed only where the count rose in it
abbrev pub HasCause : {T : Type 0} → ℕ → ℕ → Result T Failed → Type 0
HasCause old new (Ok x) = old ≤ new
HasCause old new (Err e) = old < new

-- The same of a call that may want memory. That is no fault of the device: the count stands as before.
abbrev pub HasDeviceCause : {T : Type 0} → ℕ → ℕ → Result T DeviceAnswer → Type 0
HasDeviceCause old new (Ok x) = old ≤ new
HasDeviceCause old new (Err Answer.Failed) = old < new
HasDeviceCause old new (Err Answer.NoMemory) = new ≡ old

-- whether a call was done; want of memory is handed on
abbrev pub done_of : Result (Unit {0}) DeviceAnswer → Result Bool NoMemory
done_of (Ok x) = Ok true
done_of (Err Answer.Failed) = Ok false
done_of (Err Answer.NoMemory) = Err (record {})

-- whether a list has the number
abbrev pub has_number : List ℕ → ℕ → Bool
has_number numbers n = list_any (λ k. k == n) numbers

-- Where it is told whether a call fails, it does so exactly then; it may want memory all the same.
abbrev pub FailsAsTold : {T : Type 0} → Option Bool → Result T DeviceAnswer → Type 0
FailsAsTold None result = Unit {0}
FailsAsTold (Some fails) (Ok x) = fails ≡ false
FailsAsTold (Some fails) (Err Answer.Failed) = fails ≡ true
FailsAsTold (Some fails) (Err Answer.NoMemory) = Unit {0}

-- Where it is told which calls fail, by their numbers from 1, a call fails exactly where its number is told.
abbrev pub Foretold : {T : Type 0} → Option (List ℕ) → ℕ → Result T DeviceAnswer → Type 0
Foretold failing number = FailsAsTold (option_map (λ numbers. has_number numbers number) failing)
