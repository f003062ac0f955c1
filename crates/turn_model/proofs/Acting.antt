-- What a turn and an opening leave of the client, of the host and of the files.
use Rattle.std.proofs.Common.{ℕ, ◌≡◌, List, Option, None, refl, sym, ap, subst, ◌∙◌}
use Rattle.net_types.specs.declared.interface.IfSpec.{IfSpec}
use Rattle.world.specs.declared.rows.HostRow.{HostRow}
use Rattle.world.specs.declared.wakes.Begin.{Begin}
use Rattle.world.specs.declared.wakes.Wake.{Wake}
use Rattle.world.specs.HostCalls.{HostTold}
use Rattle.client_model.specs.IfaceSettings.declared.interfaces.Managed.{Managed}
use Rattle.hook_child.specs.Supervision.{Supervision}
use Rattle.client_model.specs.Clients.{Client, ClientStep, rows_of}
use Rattle.machine.specs.Moment.{moment_of}
use Rattle.client_model.specs.HostModel.HostTurn.{known_after}
use Rattle.client_model.specs.HostModel.ToldHost.{told_host}
use Rattle.device_calls.specs.Programs.{Asks, Done, after}
use Rattle.device_calls.specs.Worlds.{World, Told, Ran, run}
use Rattle.device_calls.proofs.Programs.{run_after, ran_both}
use Rattle.turn_model.specs.KeptFiles.{KeptFile, keeping}
use Rattle.turn_model.specs.Loading.{FilesLoaded, loading_files}
use Rattle.turn_model.specs.Hooking.{polling, hooking}
use Rattle.turn_model.specs.Turns.{Life, Outlook, offering, hosting, acting, step_of, outlook_with, turn_moment, stop_after, turn_asks}
use Rattle.turn_model.specs.Opening.{clearing, outlook_from, opening_step, opening_asks}
use Rattle.turn_model.proofs.HostRuns.{host_left, host_known}
use Rattle.turn_model.proofs.Leaving.{offers_leave, clearing_leaves, files_leave, hosting_leaves_store, keeping_leaves, polling_leaves, hooking_leaves}

-- ---- a step

-- the client is that of the step; the host is left, and known, as by the host's part alone
pub record Acts (managed : List Managed) (known : Option (List HostRow)) (client : Client) (host : Told HostTold (List ℕ)) (ran : Ran Life) : Type 0 where
  pub client_is : ran.result.client ≡ client
  pub known_is : ran.result.known ≡ known_after managed known (rows_of client) (told_host managed host.failing known (rows_of client) host.told).answer
  pub told_is : ran.world.host.told ≡ (told_host managed host.failing known (rows_of client) host.told).told
  pub failing_is : ran.world.host.failing ≡ host.failing

-- So where others are asked before it that leave the host.
then_acts : {A : Type 0} (managed : List Managed) (known : Option (List HostRow)) (client : Client) (host : Told HostTold (List ℕ)) (first : Ran A)
    (ran : Ran Life)
    → first.world.host ≡ host → Acts managed known client first.world.host ran → Acts managed known client host (ran_both first ran)
then_acts managed known client host first ran same it =
    subst (λ (h : Told HostTold (List ℕ)). Acts managed known client h (ran_both first ran)) same
    (record { client_is = it.client_is; known_is = it.known_is; told_is = it.told_is; failing_is = it.failing_is })

-- what the run of a step makes, in its parts
module _ (managed : List Managed) (outlook : Outlook) (step : ClientStep) (moment : ℕ) (stop : Option ℕ) where
  abbrev pub life_with : ℕ → Option (List HostRow) → Supervision → List KeptFile → Life
  life_with unsent known hooks files = record { client = step.client; known = known; files = files; hooks = hooks; now = moment; stop = stop; unsent = unsent }

  abbrev to_keep : ℕ → Option (List HostRow) → Supervision → Asks Life
  to_keep unsent known hooks = after (keeping step.client.ifaces outlook.files) (λ files. Done (life_with unsent known hooks files))

  abbrev to_hook : ℕ → Option (List HostRow) → Asks Life
  to_hook unsent known = after (hooking moment step.jobs outlook.hooks) (λ hooks. to_keep unsent known hooks)

  abbrev to_host : ℕ → Asks Life
  to_host unsent = after (hosting managed (rows_of step.client) outlook.known) (λ known. to_hook unsent known)

  abbrev pub offered : World → Ran ℕ
  offered world = run (offering step.sends 0) world

  abbrev pub hosted : World → Ran (Option (List HostRow))
  hosted world = run (hosting managed (rows_of step.client) outlook.known) (offered world).world

  abbrev pub hooked : World → Ran Supervision
  hooked world = run (hooking moment step.jobs outlook.hooks) (hosted world).world

  abbrev pub kept : World → Ran (List KeptFile)
  kept world = run (keeping step.client.ifaces outlook.files) (hooked world).world

  abbrev pub lives : World → Ran Life
  lives world = run (Done (life_with (offered world).result (hosted world).result (hooked world).result (kept world).result)) (kept world).world

  pub ran_is : (world : World)
      → run (acting managed outlook step moment stop) world
      ≡ ran_both (offered world) (ran_both (hosted world) (ran_both (hooked world) (ran_both (kept world) (lives world))))
  ran_is world =
      run_after (offering step.sends 0) to_host world
      ∙ ap (λ (ran : Ran Life). ran_both (offered world) ran)
      (run_after (hosting managed (rows_of step.client) outlook.known) (λ known. to_hook (offered world).result known) (offered world).world
      ∙ ap (λ (ran : Ran Life). ran_both (hosted world) ran)
      (run_after (hooking moment step.jobs outlook.hooks) (λ hooks. to_keep (offered world).result (hosted world).result hooks) (hosted world).world
      ∙ ap (λ (ran : Ran Life). ran_both (hooked world) ran)
      (run_after (keeping step.client.ifaces outlook.files) (λ files. Done (life_with (offered world).result (hosted world).result (hooked world).result files))
      (hooked world).world)))

  pub acts : (world : World) → Acts managed outlook.known step.client world.host (run (acting managed outlook step moment stop) world)
  acts world =
      let same : (offered world).world.host ≡ world.host = offers_leave (λ w. w.host) (λ told w. refl) step.sends 0 world in
      let kept_host : (kept world).world.host ≡ (hosted world).world.host =
      keeping_leaves (λ w. w.host) (λ told w. refl) step.client.ifaces outlook.files (hooked world).world
      ∙ hooking_leaves (λ w. w.host) (λ told w. refl) moment step.jobs outlook.hooks (hosted world).world in
      record {
        client_is = ap (λ (ran : Ran Life). ran.result.client) (ran_is world);
        known_is = ap (λ (ran : Ran Life). ran.result.known) (ran_is world)
            ∙ host_known managed (rows_of step.client) outlook.known (offered world).world
            ∙ ap
            (λ (host : Told HostTold (List ℕ)). known_after managed outlook.known (rows_of step.client)
            (told_host managed host.failing outlook.known (rows_of step.client) host.told).answer)
            same;
        told_is = ap (λ (ran : Ran Life). ran.world.host.told) (ran_is world)
            ∙ ap (λ (host : Told HostTold (List ℕ)). host.told) kept_host
            ∙ ap (λ (w : World). w.host.told) (host_left managed (rows_of step.client) outlook.known (offered world).world)
            ∙ ap (λ (host : Told HostTold (List ℕ)). (told_host managed host.failing outlook.known (rows_of step.client) host.told).told) same;
        failing_is = ap (λ (ran : Ran Life). ran.world.host.failing) (ran_is world)
            ∙ ap (λ (host : Told HostTold (List ℕ)). host.failing) kept_host
            ∙ ap (λ (w : World). w.host.failing) (host_left managed (rows_of step.client) outlook.known (offered world).world)
            ∙ ap (λ (host : Told HostTold (List ℕ)). host.failing) same;
      }

  -- the files are kept over the store as it was
  pub store_before : (world : World) → (hooked world).world.store ≡ world.store
  store_before world =
      hooking_leaves (λ w. w.store) (λ told w. refl) moment step.jobs outlook.hooks (hosted world).world
      ∙ hosting_leaves_store managed (rows_of step.client) outlook.known (offered world).world
      ∙ offers_leave (λ w. w.store) (λ told w. refl) step.sends 0 world

-- ---- a turn, and an opening

module _ (managed : List Managed) (life : Life) (wake : Wake) (bytes : List ℕ) where
  abbrev pub ran_polling : World → Ran Supervision
  ran_polling world = run (polling (turn_moment life wake) life.hooks) world

  abbrev turn_step : Supervision → Asks Life
  turn_step hooks =
      acting managed (outlook_with life hooks) (step_of life wake bytes) (turn_moment life wake) (stop_after life.stop wake.event (turn_moment life wake))

  abbrev pub ran_turn_step : World → Ran Life
  ran_turn_step world = run (turn_step (ran_polling world).result) (ran_polling world).world

  pub turn_ran : (world : World) → run (turn_asks managed life wake bytes) world ≡ ran_both (ran_polling world) (ran_turn_step world)
  unfolding turn_asks
  turn_ran world = run_after (polling (turn_moment life wake) life.hooks) (λ hooks. turn_step hooks) world

  -- polling leaves the store
  pub store_polled : (world : World) → (ran_polling world).world.store ≡ world.store
  store_polled world = polling_leaves (λ w. w.store) (λ told w. refl) (turn_moment life wake) life.hooks world

  pub turn_acts : (world : World) → Acts managed life.known (step_of life wake bytes).client world.host (run (turn_asks managed life wake bytes) world)
  turn_acts world =
      let client : Client = (step_of life wake bytes).client in
      let polled : Ran Supervision = ran_polling world in
      subst (λ (ran : Ran Life). Acts managed life.known client world.host ran) (sym (turn_ran world))
      (then_acts managed life.known client world.host polled (ran_turn_step world)
      (polling_leaves (λ w. w.host) (λ told w. refl) (turn_moment life wake) life.hooks world)
      (acts managed (outlook_with life polled.result) (step_of life wake bytes) (turn_moment life wake)
      (stop_after life.stop wake.event (turn_moment life wake)) polled.world))

module _ (managed : List Managed) (specs : List IfSpec) (begin : Begin) where
  abbrev step_asks : FilesLoaded → Asks Life
  step_asks files = acting managed (outlook_from managed files) (opening_step managed files specs begin) (moment_of begin.at) None

  abbrev pub ran_clearing : World → Ran (Unit {0})
  ran_clearing world = run clearing world

  abbrev pub ran_loading : World → Ran FilesLoaded
  ran_loading world = run (loading_files managed) (ran_clearing world).world

  abbrev pub ran_step : World → Ran Life
  ran_step world = run (step_asks (ran_loading world).result) (ran_loading world).world

  pub opening_ran : (world : World)
      → run (opening_asks managed specs begin) world ≡ ran_both (ran_clearing world) (ran_both (ran_loading world) (ran_step world))
  unfolding opening_asks
  opening_ran world =
      run_after clearing (λ _. after (loading_files managed) (λ files. step_asks files)) world
      ∙ ap (λ (ran : Ran Life). ran_both (ran_clearing world) ran) (run_after (loading_files managed) (λ files. step_asks files) (ran_clearing world).world)

  pub opening_acts : (world : World)
      → Acts managed None (opening_step managed (ran_loading world).result specs begin).client world.host (run (opening_asks managed specs begin) world)
  opening_acts world =
      let cleared : Ran (Unit {0}) = ran_clearing world in
      let read : Ran FilesLoaded = ran_loading world in
      let client : Client = (opening_step managed read.result specs begin).client in
      subst (λ (ran : Ran Life). Acts managed None client world.host ran) (sym (opening_ran world))
      (then_acts managed None client world.host cleared (ran_both read (ran_step world)) (clearing_leaves (λ w. w.host) (λ told w. refl) world)
      (then_acts managed None client cleared.world.host read (ran_step world) (files_leave (λ w. w.host) (λ told w. refl) managed cleared.world)
      (acts managed (outlook_from managed read.result) (opening_step managed read.result specs begin) (moment_of begin.at) None read.world)))
