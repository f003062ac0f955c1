-- Laws on calls of a supervisor, one after another, whatever they are.
use Rattle.std.specs.Prelude.{ℕ, ◌+◌, ◌-◌, ◌^◌, ◌<◌, ◌≤◌, ◌≡◌, ◌↔◌, false, IsTrue, Some, List, [], ◌∷◌, ◌++◌, length}
use Rattle.std.specs.List.{list_any, range_with_len}
use Rattle.std.specs.Result.{IsErr}
use Rattle.machine.specs.Moment.{moment_of}
use Rattle.world.specs.declared.hooking.Poll.TheVariants.{Running}
use Rattle.world.specs.HookCalls.{Job}
use Rattle.hook_child.specs.Supervision.{Supervision, Start, Abandon, child_time, idle, most_waiting, put_answer, poll_order, next_order, after_next}
use Rattle.hook_child.specs.Histories.{Call, Event, JobStarted, after_calls, history, is_gone, numbers_in, started_in, taken_in}

-- what came of calls, from the first on
abbrev pub events_of : List Call → List Event
events_of calls = history calls idle

abbrev pub left_by : List Call → Supervision
left_by calls = after_calls calls idle

-- the jobs that were started, and then those that wait, are the jobs that were taken, in the order in which they were
-- put
abbrev pub FirstInFirstOut : Type 0
FirstInFirstOut =
    (calls : List Call) → started_in (events_of calls) ++ (left_by calls).waiting ≡ taken_in (events_of calls)

-- a job is dropped exactly where as many wait as may: that many were taken and not started
abbrev pub DropWhereFull : Type 0
DropWhereFull = (calls : List Call)
    → IsErr (put_answer (left_by calls)) ↔
    (length (taken_in (events_of calls)) ≡ length (started_in (events_of calls)) + most_waiting)

-- no more jobs wait than may
abbrev pub FewWait : Type 0
FewWait = (calls : List Call) → length (left_by calls).waiting ≤ most_waiting

-- ---- numbers

-- each number is above the one before it
abbrev pub Rise : ℕ → List Job → Type 0
Rise last [] = Unit {0}
Rise last (job ∷ jobs) = (last < job.number) × Rise job.number jobs

-- jobs are numbered 1, 2, 3 and so on as they are put, dropped ones included
abbrev pub CountPuts : Type 0
CountPuts = (calls : List Call) → length calls < 2 ^ 64
    → numbers_in (events_of calls) ≡ range_with_len 1 (length (numbers_in (events_of calls)))

-- jobs start in the order of their numbers, and none twice
abbrev pub StartOnce : Type 0
StartOnce = (calls : List Call) → length calls < 2 ^ 64 → Rise 0 (started_in (events_of calls))

-- ---- children

-- between two starts the first child goes
abbrev pub OneChild : Type 0
OneChild = (calls : List Call) (before between later : List Event) (one other : Job)
    → events_of calls ≡ before ++ JobStarted one ∷ (between ++ JobStarted other ∷ later)
    → IsTrue (list_any is_gone between)

-- where nothing has gone since a job was started, its child runs, as of that start
abbrev pub RunOn : Type 0
RunOn = (s : Supervision) (job : Job) (since : ℕ) (calls : List Call)
    → next_order s ≡ Start job → list_any is_gone (history calls (after_next since s)) ≡ false
    → (after_calls calls (after_next since s)).child ≡ Some (record { number = job.number; since = moment_of since })

-- a child that still runs is abandoned exactly where a poll finds it that long after its start or later
abbrev pub AbandonOnTime : Type 0
AbandonOnTime = (s : Supervision) (job : Job) (since at : ℕ) (calls : List Call)
    → next_order s ≡ Start job → list_any is_gone (history calls (after_next since s)) ≡ false
    → (poll_order Running at (after_calls calls (after_next since s)).child ≡ Abandon) ↔
    (child_time ≤ moment_of at - moment_of since)
