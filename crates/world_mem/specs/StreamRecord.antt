-- What input and output in memory hold, and which of their calls fail.
use Rattle.std.specs.Prelude.{ℕ, Bool, true, false, ◌≡◌, ◌+◌, ◌-◌, ◌<◌, ◌^◌, nat_lt, List, [], ◌∷◌, Option, Some, None, Result, Ok, Err, if◌then◌else◌}
use Rattle.world.specs.Causes.{has_number}
use Rattle.net_types.specs.declared.fault.Failed.{Failed}
use Rattle.world.specs.declared.faults.DeviceAnswer.{DeviceAnswer}
use Rattle.world.specs.declared.faults.DeviceAnswer.TheVariants as Answer

pub record SourceState : Type 0 where
  -- the bytes to come, and how many were taken
  pub left : List ℕ
  pub taken : ℕ
  -- the number of the next call, from 1; nothing past the range of numbers
  pub next : Option ℕ
  -- how many calls failed
  pub failed : ℕ
  -- the numbers of the calls that fail
  pub failing : List ℕ

pub record SinkState : Type 0 where
  pub written : List ℕ
  pub next : Option ℕ
  pub failed : ℕ
  pub failing : List ℕ

abbrev pub call_fails : Option ℕ → List ℕ → Bool
call_fails None failing = false
call_fails (Some number) failing = has_number failing number

-- whether no call fails
abbrev pub none_fails : List ℕ → Bool
none_fails [] = true
none_fails (number ∷ failing) = false

abbrev pub next_call : Option ℕ → Option ℕ
next_call None = None
next_call (Some number) = if nat_lt (number + 1) (2 ^ 64) then Some (number + 1) else None

-- how many calls were made before the next, counted up to 2^64 - 1
abbrev pub calls_before : Option ℕ → ℕ
calls_before None = 2 ^ 64 - 1
calls_before (Some number) = number - 1

-- fewer calls failed than were made
abbrev pub FewFailed : ℕ → Option ℕ → Type 0
FewFailed failed None = Unit {0}
FewFailed failed (Some number) = failed < number

-- a read fails exactly where its number is told, and each is counted
abbrev pub Counts : {T : Type 0} → SourceState → SourceState → Result T Failed → Type 0
Counts old new (Ok x) =
    (call_fails old.next old.failing ≡ false)
    × (new ≡ record old { left = new.left; taken = new.taken; next = next_call old.next })
Counts old new (Err e) =
    (call_fails old.next old.failing ≡ true) × (new ≡ record old { next = next_call old.next; failed = old.failed + 1 })

-- a write likewise; one that answers NoMemory is not counted, and writes nothing
abbrev pub CountsWrite : {T : Type 0} → SinkState → SinkState → Result T DeviceAnswer → Type 0
CountsWrite old new (Ok x) =
    (call_fails old.next old.failing ≡ false) × (new ≡ record old { written = new.written; next = next_call old.next })
CountsWrite old new (Err Answer.Failed) =
    (call_fails old.next old.failing ≡ true) × (new ≡ record old { next = next_call old.next; failed = old.failed + 1 })
CountsWrite old new (Err Answer.NoMemory) = new ≡ old
