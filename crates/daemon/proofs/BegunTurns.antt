-- What was begun of a turn and of an opening, as the code asks it.
use Rattle.std.proofs.Common.{ℕ, ◌≡◌, List, Option, None, subst}
use Rattle.net_types.specs.declared.interface.IfSpec.{IfSpec}
use Rattle.world.specs.HookCalls.{Job}
use Rattle.world.specs.declared.rows.HostRow.{HostRow}
use Rattle.world.specs.declared.wakes.Begin.{Begin}
use Rattle.world.specs.declared.wakes.Wake.{Wake}
use Rattle.settings.specs.declared.interfaces.Managed.{Managed}
use Rattle.machine.specs.Moment.{moment_of}
use Rattle.hook_child.specs.Supervision.{Supervision, idle}
use Rattle.client_model.specs.IfaceTurns.{Turn}
use Rattle.client_model.specs.Clients.{Client, ClientStep, client_turned, opening, rows_of}
use Rattle.client_model.specs.KeptLeases.{Beginning}
use Rattle.client_core.specs.IfaceMachines.Outcomes.{Asked}
use Rattle.client_core.specs.Stepping.{Steps}
use Rattle.device_calls.specs.Programs.{Asks, after}
use Rattle.device_calls.specs.Worlds.{Seen}
use Rattle.device_calls.specs.Does.{Does}
use Rattle.device_calls.specs.Fronts.{HasBegun}
use Rattle.device_calls.proofs.Begun.{begun_all, begun_first, begun_later}
use Rattle.turn_model.specs.Hooking.{polling, hooking}
use Rattle.turn_model.specs.KeptFiles.{KeptFile, keeping}
use Rattle.turn_model.specs.Loading.{loading_files}
use Rattle.turn_model.specs.Turns.{Life, Outlook, offering, hosting, acting, turn_asks, input_of, step_of, outlook_with, turn_moment, stop_after}
use Rattle.turn_model.specs.Opening.{clearing, outlook_from, opening_step, opening_asks}
use Rattle.daemon.proofs.TurnSteps.{step_with, first_outlook, acts_as, Loads, opening_is}

-- ---- a step of the client

module _ (managed : List Managed) (outlook : Outlook) (step : ClientStep) (moment : ℕ) (stop : Option ℕ) where
  pub frames_begun : (old new : Seen) → HasBegun (offering step.sends 0) old new → HasBegun (acting managed outlook step moment stop) old new
  frames_begun old new begun = begun_first (offering step.sends 0) _ old new begun

  pub hosts_begun : (unsent : ℕ) (old one new : Seen) (t t_one : List ℕ) → Does (offering step.sends 0) unsent old one t t_one
      → HasBegun (hosting managed (rows_of step.client) outlook.known) one new → HasBegun (acting managed outlook step moment stop) old new
  hosts_begun unsent old one new t t_one offers begun =
      begun_later (offering step.sends 0) _ unsent old one new t t_one offers
      (begun_first (hosting managed (rows_of step.client) outlook.known) _ one new begun)

  pub hooks_begun : (unsent : ℕ) (known : Option (List HostRow)) (old one two new : Seen) (t t_one t_two : List ℕ)
      → Does (offering step.sends 0) unsent old one t t_one
      → Does (hosting managed (rows_of step.client) outlook.known) known one two t_one t_two
      → HasBegun (hooking moment step.jobs outlook.hooks) two new → HasBegun (acting managed outlook step moment stop) old new
  hooks_begun unsent known old one two new t t_one t_two offers hosts begun =
      begun_later (offering step.sends 0) _ unsent old one new t t_one offers
      (begun_later (hosting managed (rows_of step.client) outlook.known) _ known one two new t_one t_two hosts
      (begun_first (hooking moment step.jobs outlook.hooks) _ two new begun))

  pub files_begun : (unsent : ℕ) (known : Option (List HostRow)) (hooks : Supervision) (old one two three new : Seen) (t t_one t_two t_three : List ℕ)
      → Does (offering step.sends 0) unsent old one t t_one
      → Does (hosting managed (rows_of step.client) outlook.known) known one two t_one t_two
      → Does (hooking moment step.jobs outlook.hooks) hooks two three t_two t_three
      → HasBegun (keeping step.client.ifaces outlook.files) three new → HasBegun (acting managed outlook step moment stop) old new
  files_begun unsent known hooks old one two three new t t_one t_two t_three offers hosts runs begun =
      begun_later (offering step.sends 0) _ unsent old one new t t_one offers
      (begun_later (hosting managed (rows_of step.client) outlook.known) _ known one two new t_one t_two hosts
      (begun_later (hooking moment step.jobs outlook.hooks) _ hooks two three new t_two t_three runs
      (begun_first (keeping step.client.ifaces outlook.files) _ three new begun)))

-- ---- a turn

module _ (managed : List Managed) (life : Life) (wake : Wake) (bytes : List ℕ) (moment : ℕ) (moment_is : moment ≡ turn_moment life wake) where
  pub turn_polls : (old new : Seen) → HasBegun (polling moment life.hooks) old new → HasBegun (turn_asks managed life wake bytes) old new
  unfolding turn_asks
  turn_polls old new begun =
      begun_first (polling (turn_moment life wake) life.hooks)
      (λ hooks. acting managed (outlook_with life hooks) (step_of life wake bytes) (turn_moment life wake)
      (stop_after life.stop wake.event (turn_moment life wake)))
      old new
      (subst (λ (m : ℕ). HasBegun (polling m life.hooks) old new) moment_is begun)

  pub turn_polled : (hooks : Supervision) (old new : Seen) (t u : List ℕ) → Does (polling moment life.hooks) hooks old new t u
      → HasBegun (turn_asks managed life wake bytes) old new
  turn_polled hooks old new t u did = turn_polls old new (begun_all (polling moment life.hooks) hooks old new t u did)

  pub turn_goes : (turn : Turn) (hooks : Supervision) (client : Client) (asked : Asked) (jobs : List Job) (stop : Option ℕ) (old mid new : Seen) (t u : List ℕ)
      → turn ≡ input_of life wake bytes → Steps (client_turned turn life.client) client asked → jobs ≡ (client_turned turn life.client).jobs
      → stop ≡ stop_after life.stop wake.event moment
      → Does (polling moment life.hooks) hooks old mid t u
      → HasBegun (acting managed (outlook_with life hooks) (step_with client asked.sends jobs) moment stop) mid new
      → HasBegun (turn_asks managed life wake bytes) old new
  unfolding turn_asks
  turn_goes turn hooks client asked jobs stop old mid new t u turn_is steps jobs_are stop_is polls begun =
      begun_later (polling (turn_moment life wake) life.hooks)
      (λ line. acting managed (outlook_with life line) (step_of life wake bytes) (turn_moment life wake)
      (stop_after life.stop wake.event (turn_moment life wake)))
      hooks old mid new t u
      (subst (λ (m : ℕ). Does (polling m life.hooks) hooks old mid t u) moment_is polls)
      (subst (λ (asks : Asks Life). HasBegun asks mid new)
      (acts_as managed life wake bytes turn hooks client asked jobs moment stop turn_is steps jobs_are moment_is stop_is) begun)

-- ---- the opening

module _ (managed : List Managed) (specs : List IfSpec) (begin : Begin) where
  pub opening_clears : (old new : Seen) → HasBegun clearing old new → HasBegun (opening_asks managed specs begin) old new
  unfolding opening_asks
  opening_clears old new begun =
      begun_first clearing
      (λ _. after (loading_files managed)
      (λ files. acting managed (outlook_from managed files) (opening_step managed files specs begin) (moment_of begin.at) None))
      old new begun

  pub opening_loads : (x : Unit {0}) (old mid new : Seen) (t u : List ℕ) → Does clearing x old mid t u → HasBegun (loading_files managed) mid new
      → HasBegun (opening_asks managed specs begin) old new
  unfolding opening_asks
  opening_loads x old mid new t u clears begun =
      begun_later clearing
      (λ _. after (loading_files managed)
      (λ files. acting managed (outlook_from managed files) (opening_step managed files specs begin) (moment_of begin.at) None))
      x old mid new t u clears
      (begun_first (loading_files managed)
      (λ files. acting managed (outlook_from managed files) (opening_step managed files specs begin) (moment_of begin.at) None) mid new begun)

  pub opening_loaded : (beginnings : List Beginning) (found : List KeptFile) (old mid : Seen) (t u : List ℕ) → Loads managed beginnings found old mid t u
      → HasBegun (opening_asks managed specs begin) old mid
  opening_loaded beginnings found old mid t u p =
      opening_loads tt old p.one mid t p.t_one p.clears (begun_all (loading_files managed) p.loads.loaded p.one mid p.t_one u p.loads.does)

  pub opening_goes : (beginnings : List Beginning) (found : List KeptFile) (hooks : Supervision) (client : Client) (asked : Asked) (jobs : List Job)
      (moment : ℕ) (old mid new : Seen) (t u : List ℕ)
      → Steps (opening beginnings specs begin) client asked → jobs ≡ (opening beginnings specs begin).jobs → moment ≡ moment_of begin.at → hooks ≡ idle
      → Loads managed beginnings found old mid t u
      → HasBegun (acting managed (first_outlook found hooks) (step_with client asked.sends jobs) moment None) mid new
      → HasBegun (opening_asks managed specs begin) old new
  unfolding opening_asks
  opening_goes beginnings found hooks client asked jobs moment old mid new t u steps jobs_were moment_is hooks_are p begun =
      begun_later clearing
      (λ _. after (loading_files managed)
      (λ files. acting managed (outlook_from managed files) (opening_step managed files specs begin) (moment_of begin.at) None))
      tt old p.one new t p.t_one p.clears
      (begun_later (loading_files managed)
      (λ files. acting managed (outlook_from managed files) (opening_step managed files specs begin) (moment_of begin.at) None) p.loads.loaded p.one mid new
      p.t_one u p.loads.does
      (subst (λ (asks : Asks Life). HasBegun asks mid new)
      (opening_is managed specs begin beginnings found hooks client asked jobs moment old mid t u steps jobs_were moment_is hooks_are p) begun))
