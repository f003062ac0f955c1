-- What holds of each job that hooks are to run holds of each that is started or dropped, and of those that wait.
use Rattle.std.proofs.Common.{ℕ, Bool, true, false, List, [], ◌∷◌, ◌++◌, Option, Some, None}
use Rattle.std.specs.List.{AllByRecursion}
use Rattle.net_types.proofs.AllLaws.{all_join}
use Rattle.net_types.proofs.CaseLaws.{gated}
use Rattle.world.specs.HookCalls.{Job}
use Rattle.hook_child.specs.declared.child.Child.{Child}
use Rattle.hook_child.specs.Supervision as child
use Rattle.hook_child.specs.Supervision.{Order, Supervision, after_next, after_poll, after_put, first_order, is_full, next_order, numbered, poll_order, waiting_after}
use Rattle.device_calls.specs.Calls as asks
use Rattle.device_calls.specs.Calls.{Call}
use Rattle.device_calls.specs.Programs.{Asks, Done, Then}
use Rattle.turn_model.proofs.Asking.{HostAsks, LinkAsks, StoreAsks}
use Rattle.turn_model.specs.Hooking.{heard, hooking, letting_go, polling, polling_child, putting, putting_one, started, starting}
use Rattle.safe_texts.proofs.ProgramEnds as programs
use Rattle.safe_texts.proofs.ProgramEnds.{MakesSo, both_ends, done_ends, then_ends}
use Rattle.safe_texts.specs.SafeJobs.{job_in}

-- it holds of a job whatever its number
module _ (P : Job → Type 0) (renumbered : (job : Job) (s : Supervision) → P job → P (numbered job s)) where
  abbrev pub AllHave : List Job → Type 0
  AllHave jobs = AllByRecursion P jobs

  abbrev pub HasJobs : Call → Type 0
  HasJobs call = AllHave (job_in call)

  abbrev pub Waits : Supervision → Type 0
  Waits s = AllHave s.waiting

  abbrev Ends : Asks Supervision → Type 0
  Ends asks = programs.Ends HasJobs Waits asks

  -- ---- calls with no job

  pub link_none : LinkAsks (MakesSo HasJobs)
  link_none = record { offer = λ iface frame taken. tt }

  pub host_none : HostAsks (MakesSo HasJobs)
  host_none = record { list = λ rows. tt; change = λ change done. tt }

  pub store_none : StoreAsks (MakesSo HasJobs)
  store_none = record {
    asides = λ names. tt;
    read = λ name reading. tt;
    write = λ name bytes done. tt;
    sync = λ name done. tt;
    rename = λ name done. tt;
    remove = λ name done. tt;
    settle = λ done. tt;
  }

  -- ---- polls

  letting_ends : (number : ℕ) (order : Order) (s : Supervision) → Waits s → Ends (letting_go number order s)
  letting_ends number child.Abandon s waits =
      then_ends HasJobs Waits (asks.Abandon number) (λ _. Done s) (λ answer. tt) (λ answer. done_ends HasJobs Waits s waits)
  letting_ends number child.Idle s waits = done_ends HasJobs Waits s waits
  letting_ends number (child.Start job) s waits = done_ends HasJobs Waits s waits

  child_ends : (at : ℕ) (s : Supervision) → Waits s → (running : Option Child) → Ends (polling_child at s running)
  child_ends at s waits None = done_ends HasJobs Waits s waits
  child_ends at s waits (Some running) =
      then_ends HasJobs Waits (asks.Poll running.number)
      (λ answer. letting_go running.number (poll_order (heard answer) at s.child) (after_poll (heard answer) at s)) (λ answer. tt)
      (λ answer. letting_ends running.number (poll_order (heard answer) at s.child) (after_poll (heard answer) at s) waits)

  pub polling_ends : (at : ℕ) (s : Supervision) → Waits s → programs.Ends HasJobs Waits (polling at s)
  polling_ends at s waits = child_ends at s waits s.child

  -- ---- jobs that come

  put_waits : (job : Job) (s : Supervision) → P job → Waits s → Waits (after_put job s)
  put_waits job s has waits =
      gated AllHave (is_full s) s.waiting (s.waiting ++ numbered job s ∷ []) waits (all_join P s.waiting (numbered job s ∷ []) waits (renumbered job s has, tt))

  one_ends : (job : Job) (s : Supervision) → P job → Waits s → Ends (putting_one job s)
  one_ends job s has waits =
      gated Ends (is_full s) (Then (asks.Drop (numbered job s)) (λ _. Done (after_put job s))) (Done (after_put job s))
      (then_ends HasJobs Waits (asks.Drop (numbered job s)) (λ _. Done (after_put job s)) (λ answer. (renumbered job s has, tt))
      (λ answer. done_ends HasJobs Waits (after_put job s) (put_waits job s has waits)))
      (done_ends HasJobs Waits (after_put job s) (put_waits job s has waits))

  putting_ends : (jobs : List Job) (s : Supervision) → AllHave jobs → Waits s → Ends (putting jobs s)
  putting_ends [] s have waits = done_ends HasJobs Waits s waits
  putting_ends (job ∷ jobs) s have waits =
      both_ends HasJobs Waits Waits (putting_one job s) (putting jobs) (one_ends job s have.0 waits) (λ line waiting. putting_ends jobs line have.1 waiting)

  -- ---- the next one

  abbrev HasOrder : Order → Type 0
  HasOrder (child.Start job) = P job
  HasOrder child.Idle = Unit {0}
  HasOrder child.Abandon = Unit {0}

  first_has : (running : Option Child) (waiting : List Job) → AllHave waiting → HasOrder (first_order running waiting)
  first_has (Some one) waiting have = tt
  first_has None [] have = tt
  first_has None (job ∷ waiting) have = have.0

  rest_have : (running : Option Child) (waiting : List Job) → AllHave waiting → AllHave (waiting_after running waiting)
  rest_have (Some one) waiting have = have
  rest_have None [] have = tt
  rest_have None (job ∷ waiting) have = have.1

  started_waits : (done : Bool) (s : Supervision) → Waits s → Waits (started done s)
  started_waits true s waits = waits
  started_waits false s waits = waits

  starting_ends : (order : Order) (s : Supervision) → HasOrder order → Waits s → Ends (starting order s)
  starting_ends (child.Start job) s has waits =
      then_ends HasJobs Waits (asks.Start job) (λ done. Done (started done s)) (λ done. (has, tt))
      (λ done. done_ends HasJobs Waits (started done s) (started_waits done s waits))
  starting_ends child.Idle s has waits = done_ends HasJobs Waits s waits
  starting_ends child.Abandon s has waits = done_ends HasJobs Waits s waits

  pub hooking_ends : (at : ℕ) (jobs : List Job) (s : Supervision) → AllHave jobs → Waits s → programs.Ends HasJobs Waits (hooking at jobs s)
  hooking_ends at jobs s have waits =
      both_ends HasJobs Waits Waits (putting jobs s) (λ line. starting (next_order line) (after_next at line)) (putting_ends jobs s have waits)
      (λ line waiting. starting_ends (next_order line) (after_next at line) (first_has line.child line.waiting waiting)
      (rest_have line.child line.waiting waiting))
