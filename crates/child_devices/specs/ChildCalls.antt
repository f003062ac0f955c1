-- The calls of the system on children of this process, with their answers, and what hooks want of them. `old` and `new`
-- are the calls before and after, the last one first.
use Rattle.std.specs.Prelude.{ℕ, ℤ, ◌+◌, Bool, true, false, not, ◌≡◌, ◌≢◌, ◌⊎◌, List, [], ◌∷◌, fold, bytes_eq, option_map, unsigned_abs, Option, None, Some, Result, Ok, Err, if◌then◌else◌}
use Rattle.std.specs.Global.{Global}
use Rattle.std.specs.Process.{command_program, command_args, command_var, clears_env, exit_code, exit_signal}
use Rattle.std.specs.declared.io.ErrorKind.{ErrorKind}
use Rattle.std.specs.declared.process.command.Command.{Command}
use Rattle.std.specs.declared.process.status.ExitStatus.{ExitStatus}
use Rattle.std.specs.declared.process.status.Output.{Output}
use Rattle.net_types.specs.declared.fault.Failed.{Failed}
use Rattle.world.specs.declared.faults.DeviceAnswer.{DeviceAnswer}
use Rattle.world.specs.declared.faults.DeviceAnswer.TheVariants as Answer
use Rattle.world.specs.declared.hooking.Poll.{Poll}
use Rattle.world.specs.declared.hooking.Poll.TheVariants.{Running, Ended}
use Rattle.world.specs.HookCalls.{Variable}
use Rattle.system_calls.specs.Asking.{Does, reason_of}

-- What a child is started with. It has the environment of this process where it inherits it, but for the variables of
-- which something is said: the value that it is set to, or that it is left out.
pub record Start : Type 0 where
  pub program : List ℕ
  pub words : List (List ℕ)
  pub inherits : Bool
  pub said : (name : List ℕ) → Option (Option (List ℕ))

abbrev pub start_of : Command Global → Start
start_of call =
    record {
      program = command_program call;
      words = command_args call;
      inherits = not (clears_env call);
      said = command_var call;
    }

-- how a child ended, and what it printed
pub record Printing : Type 0 where
  pub status : ExitStatus
  pub text : List ℕ

abbrev pub printed : Result (Output Global) ErrorKind → Result Printing ErrorKind
printed (Ok output) = Ok (record { status = output.status; text = output.stdout.items })
printed (Err kind) = Err kind

-- each with why it gave nothing, where it did
pub data ChildCall : Type 0 where
  -- A child is started. It reads nothing, and what it prints is dropped.
  Started : (start : Start) → (failure : Option ErrorKind) → ChildCall
  -- how the child ended; nothing while it runs
  Asked : (answer : Result (Option ExitStatus) ErrorKind) → ChildCall
  -- the child is ended, whatever it does
  Killed : (failure : Option ErrorKind) → ChildCall
  -- how the child ended, once it has; the system forgets it
  Waited : (answer : Result ExitStatus ErrorKind) → ChildCall
  -- A child is started and waited for. It reads nothing.
  Printed : (start : Start) → (answer : Result Printing ErrorKind) → ChildCall

-- the script of a job that names one, or the hooks' own
abbrev pub script_run : (own named : List ℕ) → List ℕ
script_run own [] = own
script_run own (b ∷ named) = b ∷ named

-- the value of a variable: that of the last one with its name
abbrev pub value_in : List Variable → (name : List ℕ) → Option (List ℕ)
value_in variables name =
    fold (λ found variable. if bytes_eq variable.name name then Some variable.value else found) None variables

-- of one more variable its value is said, and of all others what was said before
pub record SaysAlso (variable : Variable) (old new : Start) : Type 0 where
  pub program : new.program ≡ old.program
  pub words : new.words ≡ old.words
  pub inherits : new.inherits ≡ old.inherits
  pub value : new.said variable.name ≡ Some (Some variable.value)
  pub others : (name : List ℕ) → name ≢ variable.name → new.said name ≡ old.said name

-- a child has these variables, and no others
pub record RunsJob (program : List ℕ) (variables : List Variable) (start : Start) : Type 0 where
  pub named : start.program ≡ program
  pub no_words : start.words ≡ []
  pub alone : start.inherits ≡ false
  pub said : (name : List ℕ) → start.said name ≡ option_map Some (value_in variables name)

-- A child has the variables of its job, and no others. For want of memory none may be asked for.
abbrev pub Starts : {T : Type 0} → (program : List ℕ) → List Variable → (old new : Option (List ChildCall))
    → Result T DeviceAnswer → Type 0
Starts program variables old new (Ok x) =
    (start : Start) × RunsJob program variables start × Does (Started start None ∷ []) old new
Starts program variables old new (Err answer) =
    ((answer ≡ Answer.NoMemory) × (new ≡ old))
    ⊎ ((start : Start) × RunsJob program variables start × ((failure : ErrorKind) × (answer ≡ reason_of failure)
    × Does (Started start (Some failure) ∷ []) old new))

-- The status that a child ended with, as a shell tells it: its own, or 128 and the number of the signal that ended it.
abbrev pub shell_status : (code signal : Option ℤ) → ℕ
shell_status (Some code) signal = unsigned_abs code
shell_status None (Some signal) = 128 + unsigned_abs signal
shell_status None None = 128

-- A child that can't be asked counts as one that runs.
abbrev pub Polls : (old new : Option (List ChildCall)) → Result Poll Failed → Type 0
Polls old new (Ok Running) =
    Does (Asked (Ok None) ∷ []) old new ⊎ ((kind : ErrorKind) × Does (Asked (Err kind) ∷ []) old new)
Polls old new (Ok (Ended status)) =
    (end : ExitStatus) × (status ≡ shell_status (exit_code end) (exit_signal end))
    × Does (Asked (Ok (Some end)) ∷ []) old new
Polls old new (Err e) = (kind : ErrorKind) × Does (Asked (Err kind) ∷ []) old new

-- A child that runs is ended and waited for, unless it can't be ended. Where none runs nothing is asked.
abbrev pub Leaves : (running : Bool) → (old new : Option (List ChildCall)) → Type 0
Leaves true old new =
    ((answer : Result ExitStatus ErrorKind) × Does (Waited answer ∷ Killed None ∷ []) old new)
    ⊎ ((kind : ErrorKind) × Does (Killed (Some kind) ∷ []) old new)
Leaves false old new = new ≡ old
