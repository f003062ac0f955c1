-- What hooks in memory were asked, and what their polls answer.
use Rattle.std.specs.Prelude.{ℕ, Bool, true, false, not, ◌≡◌, ◌+◌, ◌-◌, ◌≤◌, List, [], map, count_by, Option, Some, None}
use Rattle.world.specs.declared.hooking.Poll.{Poll}
use Rattle.world.specs.declared.hooking.Poll.TheVariants.{Running, Ended}
use Rattle.world.specs.HookCalls.{HookCall, Started, Polled, Abandoned, HooksTold, job_of, is_start}
use Rattle.world_mem.specs.declared.hooking.MemPoll.{MemPoll}
use Rattle.world_mem.specs.declared.hooking.MemPoll.TheVariants as Answers
use Rattle.world_mem.specs.declared.hooking.HookEntry.{HookEntry}
use Rattle.world_mem.specs.declared.hooking.HookEntry.TheVariants as Entry

pub record HooksState : Type 0 where
  -- the answers to come and the calls so far
  pub told : HooksTold
  pub running : Bool
  -- the numbers of the starts that fail, from 1
  pub failing : List ℕ

-- what a poll answers; nothing where it fails
abbrev pub poll_of : MemPoll → Option Poll
poll_of Answers.Run = Some Running
poll_of (Answers.Ended status) = Some (Ended status)
poll_of Answers.Failed = None

abbrev pub call_of : HookEntry → HookCall
call_of (Entry.Start job done) = Started (job_of job) done
call_of (Entry.Poll answer) = Polled (poll_of answer)
call_of Entry.Abandon = Abandoned

-- whether a call failed
abbrev pub hook_failed : HookCall → Bool
hook_failed (Started job done) = not done
hook_failed (Polled (Some poll)) = false
hook_failed (Polled None) = true
hook_failed Abandoned = false

-- before the first call
abbrev pub hooks_start : List MemPoll → List ℕ → HooksState
hooks_start polls starts = record {
  told = record { polls = map poll_of polls; calls = [] };
  running = false;
  failing = starts;
}

-- The starts are counted, and while a child runs there is room for all that can still be asked of it.
pub record HoldsCalls (calls : List HookCall) (starts next polls : ℕ) (running : Bool) (entries room : ℕ) : Type 0 where
  pub counted : count_by is_start calls ≡ starts
  pub answered : next ≤ polls
  pub room_left : running ≡ true → entries + (polls - next) + 2 ≤ room
