-- What the hooks that run as children tell, where their machine does: what asking a child will say, and the calls of
-- the hooks, which are noted as they are answered.
use Rattle.std.specs.Prelude.{ℕ, Bool, true, false, ◌≡◌, ◌+◌, ◌-◌, ◌^◌, nat_lt, List, drop, count_by, Option, None, Some, Result, Ok, Err}
use Rattle.std.specs.Process.{exit_code, exit_signal}
use Rattle.std.specs.declared.io.ErrorKind.{ErrorKind}
use Rattle.std.specs.declared.process.status.ExitStatus.{ExitStatus}
use Rattle.net_types.specs.declared.fault.Failed.{Failed}
use Rattle.world.specs.HookCalls as Hook
use Rattle.world.specs.HookCalls.{HooksTold, job_of, hooks_answered, next_answer}
use Rattle.world.specs.declared.hooking.Poll.{Poll}
use Rattle.world.specs.declared.hooking.Poll.TheVariants.{Running, Ended}
use Rattle.child_devices.specs.ChildCalls.{shell_status}
use Rattle.child_devices.specs.declared.processes.HookNote.{HookNote}
use Rattle.child_devices.specs.declared.processes.HookNote.TheVariants.{Started, Polled, Abandoned}

-- what asking a child says; nothing where it can't be asked
abbrev pub said_by_ask : Result (Option ExitStatus) ErrorKind → Option Poll
said_by_ask (Ok None) = Some Running
said_by_ask (Ok (Some end)) = Some (Ended (shell_status (exit_code end) (exit_signal end)))
said_by_ask (Err kind) = None

-- Asking says what was foretold, and the rest is what later askings will say.
abbrev pub Says : Result (Option ExitStatus) ErrorKind → (old new : Option HooksTold) → Type 0
Says answer None new = new ≡ None
Says answer (Some told) new =
    (said_by_ask answer ≡ next_answer told.polls)
    × (new ≡ Some (record { polls = drop 1 told.polls; calls = told.calls }))

abbrev pub hook_noted : HookNote → HooksTold → HooksTold
hook_noted (Started job done) told = hooks_answered (Hook.Started (job_of job.now) done) told
hook_noted (Polled said) told = hooks_answered (Hook.Polled said) told
hook_noted Abandoned told = hooks_answered Hook.Abandoned told

-- ---- what the hooks tell of that

abbrev pub is_lost : Option Poll → Bool
is_lost None = true
is_lost (Some poll) = false

-- whether there is room to count all polls that will fail, where so many have failed
abbrev pub can_count : (lost : ℕ) → List (Option Poll) → Bool
can_count lost polls = nat_lt (lost + count_by is_lost polls) (2 ^ 64 - 1)

abbrev pub told_if : Bool → HooksTold → Option HooksTold
told_if true told = Some told
told_if false told = None

-- Where more polls are to fail than can be counted nothing is told.
abbrev pub hooks_told : (lost : ℕ) → Option HooksTold → Option HooksTold
hooks_told lost None = None
hooks_told lost (Some told) = told_if (can_count lost told.polls) told

-- A poll that failed is counted. Where there is no room for that the child is said to run.
abbrev pub Loses : (old new : ℕ) → Result Poll Failed → Type 0
Loses old new (Ok poll) = (old ≡ 2 ^ 64 - 1) × (new ≡ old) × (poll ≡ Running)
Loses old new (Err e) = new ≡ old + 1
