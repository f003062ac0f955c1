-- The jobs that a life starts or drops are safe, and so are those that wait.
use Rattle.std.proofs.Common.{◌≡◌, ℕ, Bool, true, false, List, [], ◌∷◌, ◌++◌, flat_map, map, Option, Some, None, sym, subst, ◌∙◌}
use Rattle.std.specs.List.{AllByRecursion}
use Rattle.net_types.proofs.AllLaws.{all_join, all_mapped}
use Rattle.net_types.proofs.CaseLaws.{gated}
use Rattle.net_types.specs.declared.interface.IfSpec.{IfSpec}
use Rattle.machine.specs.Moment.{moment_of}
use Rattle.world.specs.HookCalls.{Job}
use Rattle.world.specs.declared.rows.HostRow.{HostRow}
use Rattle.world.specs.declared.wakes.Begin.{Begin}
use Rattle.world.specs.declared.wakes.Wake.{Wake}
use Rattle.settings.specs.declared.interfaces.Managed.{Managed}
use Rattle.settings.specs.Fitting.{AreManaged}
use Rattle.hook_child.specs.declared.child.Child.{Child}
use Rattle.hook_child.specs.Supervision as child
use Rattle.hook_child.specs.Supervision.{Order, Supervision, after_next, after_poll, after_put, childless, first_order, is_full, next_order, numbered, poll_order, waiting_after}
use Rattle.client_model.specs.declared.interfaces.Iface.{Iface}
use Rattle.client_model.specs.Clients.{ClientStep, rows_of}
use Rattle.client_model.specs.Interfaces.{resting}
use Rattle.client_model.specs.KeptLeases.{Beginning}
use Rattle.device_calls.specs.Calls as asks
use Rattle.device_calls.specs.Calls.{Call}
use Rattle.device_calls.specs.Programs.{Asks, Done, Then, after}
use Rattle.turn_model.specs.Hooking.{heard, hooking, letting_go, polling, polling_child, putting, putting_one, started, starting}
use Rattle.turn_model.specs.KeptFiles.{KeptFile, keeping}
use Rattle.turn_model.specs.Lives.{AreTurns, IsOpening, Met, OpeningMet, turn_calls, turns_calls}
use Rattle.turn_model.specs.Loading.{FilesLoaded, beginnings_of, duid_with, loading_files}
use Rattle.turn_model.specs.Opening.{clearing, opening_asks, opening_step, outlook_from}
use Rattle.turn_model.specs.Turns.{Life, Outlook, acting, hosting, input_of, offering, outlook_with, step_of, stop_after, turn_asks, turn_moment}
use Rattle.turn_model.proofs.Loading.{beginnings_managed, files_are_loaded}
use Rattle.turn_model.proofs.Asking.{HostAsks, LinkAsks, StoreAsks, clearing_only, files_only, hosting_only, keeping_only, offering_only}
use Rattle.safe_texts.specs.SafeJobs.{AreSafeJobs, IsSafeJob, LifeJobsAreSafe, job_in}
use Rattle.safe_texts.proofs.ProgramEnds as programs
use Rattle.safe_texts.proofs.ProgramEnds.{Any, Ended, MakesSo, both_ends, done_ends, only_ends, then_ends}
use Rattle.safe_texts.proofs.StepJobs.{IsHolder, OfHolder, all_holders, opened_hold, opening_safe, turn_safe, turned_hold}

module _ (managed : List Managed) where
  abbrev Safe : Job → Type 0
  Safe job = IsSafeJob managed job

  abbrev IsSafeCall : Call → Type 0
  IsSafeCall call = AreSafeJobs managed (job_in call)

  abbrev AreSafeCalls : List Call → Type 0
  AreSafeCalls calls = AllByRecursion IsSafeCall calls

  abbrev Ends : {A : Type 0} → (A → Type 0) → Asks A → Type 0
  Ends {A} R asks = programs.Ends IsSafeCall R asks

  -- ---- calls with no job

  link_safe : LinkAsks (MakesSo IsSafeCall)
  link_safe = record { offer = λ iface frame taken. tt }

  host_safe : HostAsks (MakesSo IsSafeCall)
  host_safe = record { list = λ rows. tt; change = λ change done. tt }

  store_safe : StoreAsks (MakesSo IsSafeCall)
  store_safe = record {
    asides = λ names. tt;
    read = λ name reading. tt;
    write = λ name bytes done. tt;
    sync = λ name done. tt;
    rename = λ name done. tt;
    remove = λ name done. tt;
    settle = λ done. tt;
  }

  -- ---- hooks: the jobs that wait are safe

  abbrev Waits : Supervision → Type 0
  Waits s = AreSafeJobs managed s.waiting

  letting_ends : (number : ℕ) (order : Order) (s : Supervision) → Waits s → Ends Waits (letting_go number order s)
  letting_ends number child.Abandon s waits =
      then_ends IsSafeCall Waits (asks.Abandon number) (λ _. Done s) (λ answer. tt) (λ answer. done_ends IsSafeCall Waits s waits)
  letting_ends number child.Idle s waits = done_ends IsSafeCall Waits s waits
  letting_ends number (child.Start job) s waits = done_ends IsSafeCall Waits s waits

  child_ends : (at : ℕ) (s : Supervision) → Waits s → (running : Option Child) → Ends Waits (polling_child at s running)
  child_ends at s waits None = done_ends IsSafeCall Waits s waits
  child_ends at s waits (Some running) =
      then_ends IsSafeCall Waits (asks.Poll running.number)
      (λ answer. letting_go running.number (poll_order (heard answer) at s.child) (after_poll (heard answer) at s)) (λ answer. tt)
      (λ answer. letting_ends running.number (poll_order (heard answer) at s.child) (after_poll (heard answer) at s) waits)

  polling_ends : (at : ℕ) (s : Supervision) → Waits s → Ends Waits (polling at s)
  polling_ends at s waits = child_ends at s waits s.child

  numbered_safe : (job : Job) (s : Supervision) → Safe job → Safe (numbered job s)
  numbered_safe job s safe = record {
    holder = safe.holder;
    among = safe.among;
    iface = safe.iface;
    named = safe.named;
    script = safe.script;
    made = safe.made;
    vars = safe.vars;
    safe = safe.safe;
  }

  put_waits : (job : Job) (s : Supervision) → Safe job → Waits s → Waits (after_put job s)
  put_waits job s safe waits =
      gated (AreSafeJobs managed) (is_full s) s.waiting (s.waiting ++ numbered job s ∷ []) waits
      (all_join Safe s.waiting (numbered job s ∷ []) waits (numbered_safe job s safe, tt))

  one_ends : (job : Job) (s : Supervision) → Safe job → Waits s → Ends Waits (putting_one job s)
  one_ends job s safe waits =
      gated (λ (asks : Asks Supervision). Ends Waits asks) (is_full s) (Then (asks.Drop (numbered job s)) (λ _. Done (after_put job s)))
      (Done (after_put job s))
      (then_ends IsSafeCall Waits (asks.Drop (numbered job s)) (λ _. Done (after_put job s)) (λ answer. (numbered_safe job s safe, tt))
      (λ answer. done_ends IsSafeCall Waits (after_put job s) (put_waits job s safe waits)))
      (done_ends IsSafeCall Waits (after_put job s) (put_waits job s safe waits))

  putting_ends : (jobs : List Job) (s : Supervision) → AreSafeJobs managed jobs → Waits s → Ends Waits (putting jobs s)
  putting_ends [] s safe waits = done_ends IsSafeCall Waits s waits
  putting_ends (job ∷ jobs) s safe waits =
      both_ends IsSafeCall Waits Waits (putting_one job s) (putting jobs) (one_ends job s safe.0 waits) (λ line waiting. putting_ends jobs line safe.1 waiting)

  abbrev SafeOrder : Order → Type 0
  SafeOrder (child.Start job) = Safe job
  SafeOrder child.Idle = Unit {0}
  SafeOrder child.Abandon = Unit {0}

  first_safe : (running : Option Child) (waiting : List Job) → AreSafeJobs managed waiting → SafeOrder (first_order running waiting)
  first_safe (Some one) waiting safe = tt
  first_safe None [] safe = tt
  first_safe None (job ∷ waiting) safe = safe.0

  rest_safe : (running : Option Child) (waiting : List Job) → AreSafeJobs managed waiting → AreSafeJobs managed (waiting_after running waiting)
  rest_safe (Some one) waiting safe = safe
  rest_safe None [] safe = tt
  rest_safe None (job ∷ waiting) safe = safe.1

  started_waits : (done : Bool) (s : Supervision) → Waits s → Waits (started done s)
  started_waits true s waits = waits
  started_waits false s waits = waits

  starting_ends : (order : Order) (s : Supervision) → SafeOrder order → Waits s → Ends Waits (starting order s)
  starting_ends (child.Start job) s safe waits =
      then_ends IsSafeCall Waits (asks.Start job) (λ done. Done (started done s)) (λ done. (safe, tt))
      (λ done. done_ends IsSafeCall Waits (started done s) (started_waits done s waits))
  starting_ends child.Idle s safe waits = done_ends IsSafeCall Waits s waits
  starting_ends child.Abandon s safe waits = done_ends IsSafeCall Waits s waits

  hooking_ends : (at : ℕ) (jobs : List Job) (s : Supervision) → AreSafeJobs managed jobs → Waits s → Ends Waits (hooking at jobs s)
  hooking_ends at jobs s safe waits =
      both_ends IsSafeCall Waits Waits (putting jobs s) (λ line. starting (next_order line) (after_next at line)) (putting_ends jobs s safe waits)
      (λ line waiting. starting_ends (next_order line) (after_next at line) (first_safe line.child line.waiting waiting)
      (rest_safe line.child line.waiting waiting))

  -- ---- a step of the client

  abbrev AllHold : List Iface → Type 0
  AllHold ifaces = AllByRecursion (OfHolder managed) ifaces

  record IsSafeLife (life : Life) : Type 0 where
    hold : AllHold life.client.ifaces
    waits : Waits life.hooks

  module _ (outlook : Outlook) (step : ClientStep) (moment : ℕ) (stop : Option ℕ) (safe : AreSafeJobs managed step.jobs)
      (hold : AllHold step.client.ifaces) where
    abbrev life_with : ℕ → Option (List HostRow) → Supervision → List KeptFile → Life
    life_with unsent known hooks files =
        record { client = step.client; known = known; files = files; hooks = hooks; now = moment; stop = stop; unsent = unsent }

    abbrev to_keep : ℕ → Option (List HostRow) → Supervision → Asks Life
    to_keep unsent known hooks = after (keeping step.client.ifaces outlook.files) (λ files. Done (life_with unsent known hooks files))

    abbrev to_hook : ℕ → Option (List HostRow) → Asks Life
    to_hook unsent known = after (hooking moment step.jobs outlook.hooks) (λ hooks. to_keep unsent known hooks)

    abbrev to_host : ℕ → Asks Life
    to_host unsent = after (hosting managed (rows_of step.client) outlook.known) (λ known. to_hook unsent known)

    keep_ends : (unsent : ℕ) (known : Option (List HostRow)) (hooks : Supervision) → Waits hooks → Ends IsSafeLife (to_keep unsent known hooks)
    keep_ends unsent known hooks waits =
        both_ends IsSafeCall Any IsSafeLife (keeping step.client.ifaces outlook.files) (λ files. Done (life_with unsent known hooks files))
        (only_ends IsSafeCall (keeping step.client.ifaces outlook.files) (keeping_only (MakesSo IsSafeCall) store_safe step.client.ifaces outlook.files))
        (λ files any. done_ends IsSafeCall IsSafeLife (life_with unsent known hooks files) (record { hold = hold; waits = waits }))

    acting_ends : Waits outlook.hooks → Ends IsSafeLife (acting managed outlook step moment stop)
    acting_ends waits =
        both_ends IsSafeCall Any IsSafeLife (offering step.sends 0) (λ unsent. to_host unsent)
        (only_ends IsSafeCall (offering step.sends 0) (offering_only (MakesSo IsSafeCall) link_safe step.sends 0))
        (λ unsent any. both_ends IsSafeCall Any IsSafeLife (hosting managed (rows_of step.client) outlook.known) (λ known. to_hook unsent known)
        (only_ends IsSafeCall (hosting managed (rows_of step.client) outlook.known)
        (hosting_only (MakesSo IsSafeCall) host_safe managed (rows_of step.client) outlook.known))
        (λ known any_too. both_ends IsSafeCall Waits IsSafeLife (hooking moment step.jobs outlook.hooks) (λ hooks. to_keep unsent known hooks)
        (hooking_ends moment step.jobs outlook.hooks safe waits) (λ hooks waiting. keep_ends unsent known hooks waiting)))

  -- ---- turns

  turn_ends : (life : Life) (wake : Wake) (bytes : List ℕ) → IsSafeLife life → Ends IsSafeLife (turn_asks managed life wake bytes)
  unfolding turn_asks
  turn_ends life wake bytes safe =
      let at : ℕ = turn_moment life wake in
      both_ends IsSafeCall Waits IsSafeLife (polling at life.hooks)
      (λ hooks. acting managed (outlook_with life hooks) (step_of life wake bytes) at (stop_after life.stop wake.event at))
      (polling_ends at life.hooks safe.waits)
      (λ hooks waiting. acting_ends (outlook_with life hooks) (step_of life wake bytes) at (stop_after life.stop wake.event at)
      (turn_safe managed life.client.own (input_of life wake bytes) life.client.ifaces safe.hold)
      (turned_hold managed life.client.own (input_of life wake bytes) life.client.ifaces safe.hold) waiting)

  turns_safe : (mets : List Met) (life : Life) → IsSafeLife life → AreTurns managed life mets → AreSafeCalls (turns_calls life mets)
  turns_safe [] life safe turns = tt
  turns_safe (met ∷ mets) life safe turns =
      let ended : Ended IsSafeCall IsSafeLife met.calls met.life = turn_ends life met.wake met.bytes safe met.calls met.life turns.0.makes in
      all_join IsSafeCall (turn_calls life met) (turns_calls met.life mets) (tt, ended.each) (turns_safe mets met.life ended.so turns.1)

  -- ---- the opening

  abbrev AllManaged : FilesLoaded → Type 0
  AllManaged files = map (λ (b : Beginning). b.managed) (beginnings_of managed files) ≡ managed

  loading_ends : Ends AllManaged (loading_files managed)
  loading_ends calls files makes = record {
    each = (only_ends IsSafeCall (loading_files managed) (files_only (MakesSo IsSafeCall) store_safe managed) calls files makes).each;
    so = beginnings_managed (duid_with managed files) files.ifaces ∙ files_are_loaded managed calls files makes;
  }

  all_begin : AreManaged managed → (files : FilesLoaded) → AllManaged files
      → AllByRecursion (λ (b : Beginning). OfHolder managed (resting b)) (beginnings_of managed files)
  all_begin fit files same =
      all_mapped (IsHolder managed) (λ (b : Beginning). b.managed) (beginnings_of managed files)
      (subst (AllByRecursion (IsHolder managed)) (sym same) (all_holders managed fit))

  opening_ends : AreManaged managed → (specs : List IfSpec) (begin : Begin) → Ends IsSafeLife (opening_asks managed specs begin)
  unfolding opening_asks
  opening_ends fit specs begin =
      let acts : FilesLoaded → Asks Life =
      λ files. acting managed (outlook_from managed files) (opening_step managed files specs begin) (moment_of begin.at) None in
      both_ends IsSafeCall Any IsSafeLife clearing (λ _. after (loading_files managed) acts)
      (only_ends IsSafeCall clearing (clearing_only (MakesSo IsSafeCall) store_safe))
      (λ _ any. both_ends IsSafeCall AllManaged IsSafeLife (loading_files managed) acts loading_ends
      (λ files same. acting_ends (outlook_from managed files) (opening_step managed files specs begin) (moment_of begin.at) None
      (opening_safe managed begin.up (moment_of begin.at) begin.salt (beginnings_of managed files) (all_begin fit files same))
      (opened_hold managed begin.up (moment_of begin.at) begin.salt (beginnings_of managed files) (all_begin fit files same)) tt))

  jobs_of_calls : (calls : List Call) → AreSafeCalls calls → AreSafeJobs managed (flat_map job_in calls)
  jobs_of_calls [] safe = tt
  jobs_of_calls (call ∷ calls) safe = all_join Safe (job_in call) (flat_map job_in calls) safe.0 (jobs_of_calls calls safe.1)

  life_safe : (specs : List IfSpec) (opening : OpeningMet) (mets : List Met) → AreManaged managed → IsOpening managed specs opening
      → AreTurns managed opening.life mets
      → AreSafeJobs managed (flat_map job_in (opening.calls ++ turns_calls opening.life mets))
  life_safe specs opening mets fit opens turns =
      let ended : Ended IsSafeCall IsSafeLife opening.calls opening.life = opening_ends fit specs opening.begin opening.calls opening.life opens in
      jobs_of_calls (opening.calls ++ turns_calls opening.life mets)
      (all_join IsSafeCall opening.calls (turns_calls opening.life mets) ended.each (turns_safe mets opening.life ended.so turns))

pub life_jobs_are_safe : LifeJobsAreSafe
life_jobs_are_safe managed specs opening mets fit opens turns = life_safe managed specs opening mets fit opens turns
