-- What comes of calls of a supervisor, one after another.
use Rattle.std.specs.Prelude.{ℕ, Bool, true, false, List, [], ◌∷◌, Option, Some, None, Result, Ok, Err}
use Rattle.std.specs.List.{filter_map}
use Rattle.world.specs.declared.hooking.Poll.{Poll}
use Rattle.world.specs.declared.hooking.Poll.TheVariants.{Running, Ended}
use Rattle.world.specs.HookCalls.{Job}
use Rattle.hook_child.specs.declared.answers.Dropped.{Dropped}
use Rattle.hook_child.specs.declared.child.Child.{Child}
use Rattle.hook_child.specs.Supervision.{Supervision, Order, Idle, Start, Abandon, put_answer, after_put, poll_order, after_poll, next_order, after_next, childless}

-- a call, with what it is told
pub data Call : Type 0 where
  Put : (job : Job) → Call
  Polled : (answer : Poll) → (at : ℕ) → Call
  NextJob : (at : ℕ) → Call
  NotStarted : Call

abbrev pub after_call : Call → Supervision → Supervision
after_call (Put job) s = after_put job s
after_call (Polled answer at) s = after_poll answer at s
after_call (NextJob at) s = after_next at s
after_call NotStarted s = childless s

abbrev pub after_calls : List Call → Supervision → Supervision
after_calls [] s = s
after_calls (call ∷ calls) s = after_calls calls (after_call call s)

-- what comes of a call
pub data Event : Type 0 where
  -- the job is in line, with its number
  JobTaken : (job : Job) → Event
  -- the job with this number won't start
  JobDropped : (number : ℕ) → Event
  JobStarted : (job : Job) → Event
  -- the child runs no longer: it ended, was abandoned, or wasn't started
  ChildGone : Event
  Nothing : Event

abbrev pub put_event : Job → Result ℕ Dropped → Event
put_event job (Ok number) = JobTaken (record job { number = number })
put_event job (Err dropped) = JobDropped dropped.number

abbrev pub order_event : Order → Event
order_event Idle = Nothing
order_event (Start job) = JobStarted job
order_event Abandon = ChildGone

-- where no child runs there is nothing to poll
abbrev pub poll_event : Poll → ℕ → Option Child → Event
poll_event answer at None = Nothing
poll_event (Ended status) at (Some child) = ChildGone
poll_event Running at (Some child) = order_event (poll_order Running at (Some child))

abbrev pub failed_start_event : Option Child → Event
failed_start_event None = Nothing
failed_start_event (Some child) = ChildGone

abbrev pub event : Call → Supervision → Event
event (Put job) s = put_event job (put_answer s)
event (Polled answer at) s = poll_event answer at s.child
event (NextJob at) s = order_event (next_order s)
event NotStarted s = failed_start_event s.child

abbrev pub history : List Call → Supervision → List Event
history [] s = []
history (call ∷ calls) s = event call s ∷ history calls (after_call call s)

-- ---- what a history tells

abbrev pub taken_by : Event → Option Job
taken_by (JobTaken job) = Some job
taken_by (JobDropped number) = None
taken_by (JobStarted job) = None
taken_by ChildGone = None
taken_by Nothing = None

abbrev pub started_by : Event → Option Job
started_by (JobTaken job) = None
started_by (JobDropped number) = None
started_by (JobStarted job) = Some job
started_by ChildGone = None
started_by Nothing = None

-- the number of a job that was put
abbrev pub number_put : Event → Option ℕ
number_put (JobTaken job) = Some job.number
number_put (JobDropped number) = Some number
number_put (JobStarted job) = None
number_put ChildGone = None
number_put Nothing = None

abbrev pub is_gone : Event → Bool
is_gone (JobTaken job) = false
is_gone (JobDropped number) = false
is_gone (JobStarted job) = false
is_gone ChildGone = true
is_gone Nothing = false

abbrev pub taken_in : List Event → List Job
taken_in events = filter_map taken_by events

abbrev pub started_in : List Event → List Job
started_in events = filter_map started_by events

abbrev pub numbers_in : List Event → List ℕ
numbers_in events = filter_map number_put events
