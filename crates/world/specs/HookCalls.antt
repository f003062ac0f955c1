-- What hooks that tell what they run make of each call.
use Rattle.std.specs.Prelude.{ℕ, Bool, true, false, ◌≡◌, ◌+◌, List, [], ◌∷◌, ◌++◌, map, drop, count_by, Option, Some, None, Result, Ok, Err}
use Rattle.std.specs.String.{string_bytes}
use Rattle.net_types.specs.declared.fault.Failed.{Failed}
use Rattle.world.specs.declared.faults.DeviceAnswer.{DeviceAnswer}
use Rattle.world.specs.declared.faults.DeviceAnswer.TheVariants as Answer
use Rattle.world.specs.declared.hooking.Poll.{Poll}
use Rattle.world.specs.declared.hooking.Poll.TheVariants.{Running, Ended}
use Rattle.world.specs.declared.hooking.HookVar.{HookVar}
use Rattle.world.specs.declared.hooking.HookJob.{HookJob}
use Rattle.world.specs.declared.reasons.Reason.{Reason}

pub record Variable : Type 0 where
  pub name : List ℕ
  pub value : List ℕ

-- a job without where it lies in memory
pub record Job : Type 0 where
  pub number : ℕ
  pub reason : Reason
  pub iface : ℕ
  pub script : List ℕ
  pub vars : List Variable

abbrev pub variable_of : HookVar → Variable
variable_of var = record { name = string_bytes var.name; value = string_bytes var.value }

abbrev pub job_of : HookJob → Job
job_of job =
    record {
      number = job.number;
      reason = job.reason;
      iface = job.iface.number;
      script = string_bytes job.script;
      vars = map variable_of job.vars.items;
    }

-- a call with its answer: a start and whether it was done; what a poll said, nothing where it failed; a child abandoned
pub data HookCall : Type 0 where
  Started : (job : Job) → (done : Bool) → HookCall
  Polled : (answer : Option Poll) → HookCall
  Abandoned : HookCall

pub record HooksTold : Type 0 where
  -- what polls will answer, in order; nothing where the poll fails
  pub polls : List (Option Poll)
  -- the calls answered so far, those of earlier lives included
  pub calls : List HookCall

abbrev pub is_start : HookCall → Bool
is_start (Started job done) = true
is_start (Polled answer) = false
is_start Abandoned = false

-- the number of the next start, from 1
abbrev pub start_number : Option HooksTold → ℕ
start_number None = 0
start_number (Some told) = count_by is_start told.calls + 1

abbrev pub hooks_answered : HookCall → HooksTold → HooksTold
hooks_answered call told = record told { calls = told.calls ++ call ∷ [] }

abbrev pub StartsJob : {T : Type 0} → Job → Option HooksTold → Option HooksTold → Result T DeviceAnswer → Type 0
StartsJob job None new result = new ≡ None
StartsJob job (Some told) new (Ok x) = new ≡ Some (hooks_answered (Started job true) told)
StartsJob job (Some told) new (Err Answer.Failed) = new ≡ Some (hooks_answered (Started job false) told)
StartsJob job (Some told) new (Err Answer.NoMemory) = new ≡ Some told

-- a child runs after a start that was done, and after no other
abbrev pub RunsIfDone : {T E : Type 0} → Bool → Result T E → Type 0
RunsIfDone running (Ok x) = running ≡ true
RunsIfDone running (Err e) = running ≡ false

-- a child that was polled runs on unless it ended
abbrev pub RunsOn : Bool → Result Poll Failed → Type 0
RunsOn running (Ok Running) = running ≡ true
RunsOn running (Ok (Ended status)) = running ≡ false
RunsOn running (Err e) = running ≡ true

-- what a poll said; nothing where it failed
abbrev pub said_by_poll : Result Poll Failed → Option Poll
said_by_poll (Ok poll) = Some poll
said_by_poll (Err e) = None

-- polls are answered in order; when no answer is left the child has ended with status 0
abbrev pub next_answer : List (Option Poll) → Option Poll
next_answer [] = Some (Ended 0)
next_answer (answer ∷ polls) = answer

abbrev pub polled : HooksTold → HooksTold
polled told = record { polls = drop 1 told.polls; calls = told.calls ++ Polled (next_answer told.polls) ∷ [] }

abbrev pub AnswersPoll : Option HooksTold → Option HooksTold → Result Poll Failed → Type 0
AnswersPoll None new result = new ≡ None
AnswersPoll (Some told) new result = (said_by_poll result ≡ next_answer told.polls) × (new ≡ Some (polled told))

-- a child that runs is abandoned; where none runs nothing is asked
abbrev pub abandoned : Bool → HooksTold → HooksTold
abandoned true told = hooks_answered Abandoned told
abandoned false told = told

abbrev pub Abandons : Bool → Option HooksTold → Option HooksTold → Type 0
Abandons running None new = new ≡ None
Abandons running (Some told) new = new ≡ Some (abandoned running told)
