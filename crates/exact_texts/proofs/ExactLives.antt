-- In every life each job that is started or dropped has exact variables.
use Rattle.std.proofs.Common.{◌≡◌, ℕ, List, [], ◌∷◌, ◌++◌, flat_map, map, max, Option, None, sym, subst, ◌∙◌, arith}
use Rattle.std.specs.List.{AllByRecursion}
use Rattle.machine.specs.Moment.{moment_of}
use Rattle.net_types.proofs.AllLaws.{all_join}
use Rattle.net_types.specs.Marks.{AreBytes}
use Rattle.net_types.specs.Moments.{IsMoment}
use Rattle.net_types.specs.declared.interface.IfSpec.{IfSpec}
use Rattle.world.specs.HookCalls.{Job}
use Rattle.world.specs.declared.rows.HostRow.{HostRow}
use Rattle.world.specs.declared.wakes.Begin.{Begin}
use Rattle.world.specs.declared.wakes.Wake.{Wake}
use Rattle.hook_child.specs.Supervision.{Supervision, numbered}
use Rattle.settings.specs.Fitting.{AreManaged}
use Rattle.settings.specs.declared.interfaces.Managed.{Managed}
use Rattle.conf_laws.proofs.ConfFits.{settings_fit}
use Rattle.client_model.specs.Clients.{ClientStep, rows_of}
use Rattle.client_model.specs.IfaceTurns.{iface_turned}
use Rattle.client_model.specs.Interfaces.{opened}
use Rattle.client_model.specs.KeptLeases.{Beginning}
use Rattle.client_model.specs.declared.interfaces.Iface.{Iface}
use Rattle.device_calls.specs.Calls.{Call}
use Rattle.device_calls.specs.Programs.{Asks, Done, after}
use Rattle.turn_model.proofs.Asking.{clearing_only, files_only, hosting_only, keeping_only, offering_only}
use Rattle.turn_model.proofs.Loading.{beginnings_managed, files_are_loaded}
use Rattle.turn_model.specs.Hooking.{hooking, polling}
use Rattle.turn_model.specs.KeptFiles.{KeptFile, keeping}
use Rattle.turn_model.specs.Lives.{AreTurns, IsOpening, Met, OpeningMet, turn_calls, turns_calls}
use Rattle.turn_model.specs.Loading.{FilesLoaded, beginnings_of, duid_with, loading_files}
use Rattle.turn_model.specs.Opening.{clearing, opening_asks, opening_step, outlook_from}
use Rattle.turn_model.specs.Turns.{Life, Outlook, acting, hosting, input_of, offering, outlook_with, step_of, stop_after, turn_asks, turn_moment}
use Rattle.safe_texts.proofs.ProgramEnds as programs
use Rattle.safe_texts.proofs.ProgramEnds.{Any, Ended, MakesSo, both_ends, done_ends, only_ends}
use Rattle.safe_texts.specs.ResolverLines.{AreOctets}
use Rattle.safe_texts.specs.SafeJobs.{job_in}
use Rattle.exact_texts.proofs.Beginnings.{all_rest}
use Rattle.exact_texts.proofs.ExactSteps.{IsExactIface, IsExactStep, all_opened, all_turned, steps_exact}
use Rattle.exact_texts.proofs.StepJobs.{along_exact}
use Rattle.exact_texts.proofs.WaitingJobs as jobs
use Rattle.exact_texts.specs.ExactJobs.{AreExactJobs, ConfiguredJobsAreExact, IsExactJob, LifeJobsAreExact}

-- ---- moments

early : (at : ℕ) → IsMoment (moment_of at)
early at = omega arith

later : (now at : ℕ) → IsMoment now → IsMoment (max now (moment_of at))
later now at was = omega (arith, was)

module _ (managed : List Managed) where
  abbrev Exact : Job → Type 0
  Exact job = IsExactJob managed job

  renumbered : (job : Job) (s : Supervision) → Exact job → Exact (numbered job s)
  renumbered job s exact = record {
    holder = exact.holder;
    among = exact.among;
    iface = exact.iface;
    named = exact.named;
    script = exact.script;
    made = exact.made;
    vars = exact.vars;
    exact = exact.exact;
  }

  abbrev IsExactCall : Call → Type 0
  IsExactCall call = AreExactJobs managed (job_in call)

  abbrev AreExactCalls : List Call → Type 0
  AreExactCalls calls = AllByRecursion IsExactCall calls

  abbrev Waits : Supervision → Type 0
  Waits s = AreExactJobs managed s.waiting

  abbrev Ends : {A : Type 0} → (A → Type 0) → Asks A → Type 0
  Ends {A} R asks = programs.Ends IsExactCall R asks

  abbrev AllExact : List Iface → Type 0
  AllExact ifaces = AllByRecursion (IsExactIface managed) ifaces

  record IsExactLife (life : Life) : Type 0 where
    ifaces : AllExact life.client.ifaces
    waits : Waits life.hooks
    early : IsMoment life.now

  -- ---- a step of the client

  module _ (outlook : Outlook) (step : ClientStep) (moment : ℕ) (stop : Option ℕ) (exact : AreExactJobs managed step.jobs)
      (ifaces : AllExact step.client.ifaces) (is : IsMoment moment) where
    abbrev life_with : ℕ → Option (List HostRow) → Supervision → List KeptFile → Life
    life_with unsent known hooks files =
        record { client = step.client; known = known; files = files; hooks = hooks; now = moment; stop = stop; unsent = unsent }

    abbrev to_keep : ℕ → Option (List HostRow) → Supervision → Asks Life
    to_keep unsent known hooks = after (keeping step.client.ifaces outlook.files) (λ files. Done (life_with unsent known hooks files))

    abbrev to_hook : ℕ → Option (List HostRow) → Asks Life
    to_hook unsent known = after (hooking moment step.jobs outlook.hooks) (λ hooks. to_keep unsent known hooks)

    abbrev to_host : ℕ → Asks Life
    to_host unsent = after (hosting managed (rows_of step.client) outlook.known) (λ known. to_hook unsent known)

    keep_ends : (unsent : ℕ) (known : Option (List HostRow)) (hooks : Supervision) → Waits hooks → Ends IsExactLife (to_keep unsent known hooks)
    keep_ends unsent known hooks waits =
        both_ends IsExactCall Any IsExactLife (keeping step.client.ifaces outlook.files) (λ files. Done (life_with unsent known hooks files))
        (only_ends IsExactCall (keeping step.client.ifaces outlook.files)
        (keeping_only (MakesSo IsExactCall) (jobs.store_none Exact renumbered) step.client.ifaces outlook.files))
        (λ files any. done_ends IsExactCall IsExactLife (life_with unsent known hooks files) (record { ifaces = ifaces; waits = waits; early = is }))

    acting_ends : Waits outlook.hooks → Ends IsExactLife (acting managed outlook step moment stop)
    acting_ends waits =
        both_ends IsExactCall Any IsExactLife (offering step.sends 0) (λ unsent. to_host unsent)
        (only_ends IsExactCall (offering step.sends 0) (offering_only (MakesSo IsExactCall) (jobs.link_none Exact renumbered) step.sends 0))
        (λ unsent any. both_ends IsExactCall Any IsExactLife (hosting managed (rows_of step.client) outlook.known) (λ known. to_hook unsent known)
        (only_ends IsExactCall (hosting managed (rows_of step.client) outlook.known)
        (hosting_only (MakesSo IsExactCall) (jobs.host_none Exact renumbered) managed (rows_of step.client) outlook.known))
        (λ known any_too. both_ends IsExactCall Waits IsExactLife (hooking moment step.jobs outlook.hooks) (λ hooks. to_keep unsent known hooks)
        (jobs.hooking_ends Exact renumbered moment step.jobs outlook.hooks exact waits) (λ hooks waiting. keep_ends unsent known hooks waiting)))

  -- ---- turns

  turn_ends : (life : Life) (wake : Wake) (bytes : List ℕ) → AreBytes bytes → IsExactLife life → Ends IsExactLife (turn_asks managed life wake bytes)
  unfolding turn_asks
  turn_ends life wake bytes octets exact =
      let at : ℕ = turn_moment life wake in
      let is : IsMoment at = later life.now wake.at exact.early in
      let steps : AllByRecursion (IsExactStep managed) (map (iface_turned life.client.own (input_of life wake bytes)) life.client.ifaces) =
      all_turned managed life.client.own (input_of life wake bytes) is octets life.client.ifaces exact.ifaces in
      both_ends IsExactCall Waits IsExactLife (polling at life.hooks)
      (λ hooks. acting managed (outlook_with life hooks) (step_of life wake bytes) at (stop_after life.stop wake.event at))
      (jobs.polling_ends Exact renumbered at life.hooks exact.waits)
      (λ hooks waiting. acting_ends (outlook_with life hooks) (step_of life wake bytes) at (stop_after life.stop wake.event at)
      (along_exact managed [] life.client.ifaces (map (iface_turned life.client.own (input_of life wake bytes)) life.client.ifaces) tt exact.ifaces steps)
      (steps_exact managed (map (iface_turned life.client.own (input_of life wake bytes)) life.client.ifaces) steps) is waiting)

  turns_exact : (mets : List Met) (life : Life) → IsExactLife life → AreTurns managed life mets → AreOctets mets → AreExactCalls (turns_calls life mets)
  turns_exact [] life exact turns octets = tt
  turns_exact (met ∷ mets) life exact turns octets =
      let ended : Ended IsExactCall IsExactLife met.calls met.life = turn_ends life met.wake met.bytes octets.0 exact met.calls met.life turns.0.makes in
      all_join IsExactCall (turn_calls life met) (turns_calls met.life mets) (tt, ended.each) (turns_exact mets met.life ended.so turns.1 octets.1)

  -- ---- the opening

  abbrev AllManaged : FilesLoaded → Type 0
  AllManaged files = map (λ (b : Beginning). b.managed) (beginnings_of managed files) ≡ managed

  loading_ends : Ends AllManaged (loading_files managed)
  loading_ends calls files makes = record {
    each = (only_ends IsExactCall (loading_files managed) (files_only (MakesSo IsExactCall) (jobs.store_none Exact renumbered) managed) calls files makes).each;
    so = beginnings_managed (duid_with managed files) files.ifaces ∙ files_are_loaded managed calls files makes;
  }

  opening_ends : AreManaged managed → (specs : List IfSpec) (begin : Begin) → Ends IsExactLife (opening_asks managed specs begin)
  unfolding opening_asks
  opening_ends fit specs begin =
      let at : ℕ = moment_of begin.at in
      let acts : FilesLoaded → Asks Life =
      λ files. acting managed (outlook_from managed files) (opening_step managed files specs begin) at None in
      let steps : (files : FilesLoaded) → AllManaged files
      → AllByRecursion (IsExactStep managed) (map (opened begin.up at begin.salt) (beginnings_of managed files)) =
      λ files same. all_opened managed at begin.salt (early begin.at) begin.up (beginnings_of managed files) (all_rest managed fit files same) in
      both_ends IsExactCall Any IsExactLife clearing (λ _. after (loading_files managed) acts)
      (only_ends IsExactCall clearing (clearing_only (MakesSo IsExactCall) (jobs.store_none Exact renumbered)))
      (λ _ any. both_ends IsExactCall AllManaged IsExactLife (loading_files managed) acts loading_ends
      (λ files same. acting_ends (outlook_from managed files) (opening_step managed files specs begin) at None
      (along_exact managed [] [] (map (opened begin.up at begin.salt) (beginnings_of managed files)) tt tt (steps files same))
      (steps_exact managed (map (opened begin.up at begin.salt) (beginnings_of managed files)) (steps files same)) (early begin.at) tt))

  -- ---- the life

  jobs_of_calls : (calls : List Call) → AreExactCalls calls → AreExactJobs managed (flat_map job_in calls)
  jobs_of_calls [] exact = tt
  jobs_of_calls (call ∷ calls) exact = all_join Exact (job_in call) (flat_map job_in calls) exact.0 (jobs_of_calls calls exact.1)

  life_exact : (specs : List IfSpec) (opening : OpeningMet) (mets : List Met) → AreManaged managed → IsOpening managed specs opening
      → AreTurns managed opening.life mets → AreOctets mets → AreExactCalls (opening.calls ++ turns_calls opening.life mets)
  life_exact specs opening mets fit opens turns octets =
      let ended : Ended IsExactCall IsExactLife opening.calls opening.life = opening_ends fit specs opening.begin opening.calls opening.life opens in
      all_join IsExactCall opening.calls (turns_calls opening.life mets) ended.each (turns_exact mets opening.life ended.so turns octets)

pub life_calls_are_exact : (managed : List Managed) (specs : List IfSpec) (opening : OpeningMet) (mets : List Met) → AreManaged managed
    → IsOpening managed specs opening → AreTurns managed opening.life mets → AreOctets mets
    → AllByRecursion (λ (call : Call). AreExactJobs managed (job_in call)) (opening.calls ++ turns_calls opening.life mets)
life_calls_are_exact managed specs opening mets fit opens turns octets = life_exact managed specs opening mets fit opens turns octets

pub calls_have_exact_jobs : (managed : List Managed) (calls : List Call) → AllByRecursion (λ (call : Call). AreExactJobs managed (job_in call)) calls
    → AreExactJobs managed (flat_map job_in calls)
calls_have_exact_jobs managed calls exact = jobs_of_calls managed calls exact

pub life_jobs_are_exact : LifeJobsAreExact
life_jobs_are_exact managed specs opening mets fit opens turns octets =
    calls_have_exact_jobs managed (opening.calls ++ turns_calls opening.life mets)
    (life_calls_are_exact managed specs opening mets fit opens turns octets)

pub configured_jobs_are_exact : ConfiguredJobsAreExact
configured_jobs_are_exact text managed specs opening mets life octets =
    life_jobs_are_exact managed specs opening mets (subst AreManaged (sym life.manages) (settings_fit text life.conf life.reads specs life.each).fit)
    life.opens life.turns octets
