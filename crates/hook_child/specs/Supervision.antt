-- The supervisor of hook children: jobs wait in line and start first in, first out, one child at a time.
use Rattle.std.specs.Prelude.{ℕ, ◌+◌, ◌-◌, ◌^◌, min, Bool, false, nat_le, List, [], ◌∷◌, ◌++◌, length, drop, Option, Some, None, Result, Ok, Err, if◌then◌else◌}
use Rattle.machine.specs.Moment.{moment_of}
use Rattle.world.specs.declared.hooking.Poll.{Poll}
use Rattle.world.specs.declared.hooking.Poll.TheVariants.{Running, Ended}
use Rattle.world.specs.HookCalls.{Job, job_of}
use Rattle.hook_child.specs.declared.answers.Dropped.{Dropped}
use Rattle.hook_child.specs.declared.answers.Turned.{Turned}
use Rattle.hook_child.specs.declared.answers.Turned.TheVariants as Answer
use Rattle.hook_child.specs.declared.child.Child.{Child}

pub record Supervision : Type 0 where
  -- the number of the job that was put last; 0 before the first
  pub last : ℕ
  -- the jobs that wait, the one that waits longest first
  pub waiting : List Job
  -- the child that runs
  pub child : Option Child

-- how many jobs may wait
abbrev pub most_waiting : ℕ
most_waiting = 1024

-- how long a child may run, in milliseconds
abbrev pub child_time : ℕ
child_time = 60000

-- before the first job
abbrev pub idle : Supervision
idle = record { last = 0; waiting = []; child = None }

-- ---- a job is put

-- the number of the next job; the greatest number stays
abbrev pub next_number : Supervision → ℕ
next_number s = min (s.last + 1) (2 ^ 64 - 1)

abbrev pub is_full : Supervision → Bool
is_full s = nat_le most_waiting (length s.waiting)

abbrev pub numbered : Job → Supervision → Job
numbered job s = record job { number = next_number s }

abbrev pub put_answer : Supervision → Result ℕ Dropped
put_answer s = if is_full s then Err (record { number = next_number s }) else Ok (next_number s)

-- the new job is last in line; where the line is full it is dropped
abbrev pub line_after : Job → Supervision → List Job
line_after job s = if is_full s then s.waiting else s.waiting ++ numbered job s ∷ []

abbrev pub after_put : Job → Supervision → Supervision
after_put job s = record s { last = next_number s; waiting = line_after job s }

-- ---- what is to be done about the child

pub data Order : Type 0 where
  Idle : Order
  Start : (job : Job) → Order
  Abandon : Order

abbrev pub order_of : Turned → Order
order_of Answer.Idle = Idle
order_of (Answer.Start job) = Start (job_of job)
order_of Answer.Abandon = Abandon

-- whether a child has had its time
abbrev pub is_over_time : ℕ → Option Child → Bool
is_over_time at None = false
is_over_time at (Some child) = nat_le child_time (moment_of at - child.since)

-- a child is abandoned that still runs when it has had its time
abbrev pub poll_order : Poll → ℕ → Option Child → Order
poll_order (Ended status) at child = Idle
poll_order Running at child = if is_over_time at child then Abandon else Idle

-- the child that runs after a poll
abbrev pub child_after : Poll → ℕ → Option Child → Option Child
child_after (Ended status) at child = None
child_after Running at child = if is_over_time at child then None else child

abbrev pub after_poll : Poll → ℕ → Supervision → Supervision
after_poll answer at s = record s { child = child_after answer at s.child }

-- where no child runs the job that waits longest is started
abbrev pub first_order : Option Child → List Job → Order
first_order (Some child) waiting = Idle
first_order None [] = Idle
first_order None (job ∷ waiting) = Start job

abbrev pub next_order : Supervision → Order
next_order s = first_order s.child s.waiting

-- a job that is started no longer waits
abbrev pub waiting_after : Option Child → List Job → List Job
waiting_after (Some child) waiting = waiting
waiting_after None waiting = drop 1 waiting

-- its child runs from that moment on
abbrev pub child_from : ℕ → Option Child → List Job → Option Child
child_from at (Some child) waiting = Some child
child_from at None [] = None
child_from at None (job ∷ waiting) = Some (record { number = job.number; since = moment_of at })

abbrev pub after_next : ℕ → Supervision → Supervision
after_next at s = record s { waiting = waiting_after s.child s.waiting; child = child_from at s.child s.waiting }

-- a start that failed leaves no child
abbrev pub childless : Supervision → Supervision
childless s = record s { child = None }
