-- Hooks in a life: what is asked of the child that runs, and of the jobs that wait (dhcpcd-run-hooks(8)).
use Rattle.std.specs.Prelude.{ℕ, ◌+◌, Bool, true, false, if◌then◌else◌, List, [], ◌∷◌, Option, Some, None}
use Rattle.world.specs.declared.hooking.Poll.{Poll}
use Rattle.world.specs.declared.hooking.Poll.TheVariants.{Running}
use Rattle.world.specs.HookCalls.{Job}
use Rattle.hook_child.specs.declared.child.Child.{Child}
use Rattle.hook_child.specs.Supervision.{Supervision, Order, Start, Abandon, Idle, is_full, numbered, after_put, poll_order, after_poll, next_order, after_next, childless}
use Rattle.device_calls.specs.Calls as asks
use Rattle.device_calls.specs.Programs.{Asks, Done, Then, after}

-- ---- the child that runs is polled, and forgotten where it has had its time

-- a poll that failed tells as much as one that finds it running
abbrev pub heard : Option Poll → Poll
heard None = Running
heard (Some poll) = poll

abbrev pub letting_go : (number : ℕ) → Order → Supervision → Asks Supervision
letting_go number Abandon s = Then (asks.Abandon number) (λ _. Done s)
letting_go number Idle s = Done s
letting_go number (Start job) s = Done s

abbrev pub polling_child : (at : ℕ) → Supervision → Option Child → Asks Supervision
polling_child at s None = Done s
polling_child at s (Some child) =
    Then (asks.Poll child.number)
    (λ answer. letting_go child.number (poll_order (heard answer) at s.child) (after_poll (heard answer) at s))

abbrev pub polling : (at : ℕ) → Supervision → Asks Supervision
polling at s = polling_child at s s.child

-- ---- jobs: each is put in line, or dropped where the line is full; then the first in line is started, where no child
-- runs

abbrev pub putting_one : Job → Supervision → Asks Supervision
putting_one job s =
    if is_full s then Then (asks.Drop (numbered job s)) (λ _. Done (after_put job s)) else Done (after_put job s)

abbrev pub putting : List Job → Supervision → Asks Supervision
putting [] s = Done s
putting (job ∷ jobs) s = after (putting_one job s) (putting jobs)

-- a start that failed uses the job up
abbrev pub started : (done : Bool) → Supervision → Supervision
started true s = s
started false s = childless s

abbrev pub starting : Order → Supervision → Asks Supervision
starting (Start job) s = Then (asks.Start job) (λ done. Done (started done s))
starting Idle s = Done s
starting Abandon s = Done s

abbrev pub hooking : (at : ℕ) → List Job → Supervision → Asks Supervision
hooking at jobs s = after (putting jobs s) (λ line. starting (next_order line) (after_next at line))

-- ---- when hooks want a turn: a second later while a child runs, and at once where a job waits and none runs

abbrev pub job_due : List Job → ℕ → Option ℕ
job_due [] now = None
job_due (job ∷ jobs) now = Some now

abbrev pub child_due : Option Child → List Job → ℕ → Option ℕ
child_due (Some child) waiting now = Some (now + 1000)
child_due None waiting now = job_due waiting now

abbrev pub hooks_due : Supervision → ℕ → Option ℕ
hooks_due s now = child_due s.child s.waiting now
