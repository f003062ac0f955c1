-- What a turn and an opening asked and printed.
use Rattle.std.proofs.Common.{ℕ, ◌≡◌, List, [], ◌∷◌, Option, None, sym, ap, subst, ◌∙◌}
use Rattle.net_types.specs.declared.interface.IfSpec.{IfSpec}
use Rattle.world.specs.HookCalls.{Job}
use Rattle.world.specs.declared.rows.HostRow.{HostRow}
use Rattle.world.specs.declared.wakes.Begin.{Begin}
use Rattle.world.specs.declared.wakes.Wake.{Wake}
use Rattle.settings.specs.declared.interfaces.Managed.{Managed}
use Rattle.machine.specs.Moment.{moment_of}
use Rattle.hook_child.specs.Supervision.{Supervision, idle}
use Rattle.client_model.specs.IfaceTurns.{Turn}
use Rattle.client_model.specs.Clients.{Client, ClientStep, Sending, client_turned, opening, rows_of}
use Rattle.client_model.specs.KeptLeases.{Beginning}
use Rattle.client_core.specs.IfaceMachines.Outcomes.{Asked}
use Rattle.script_model.specs.Lines as lines
use Rattle.client_core.specs.Stepping.{Steps}
use Rattle.device_calls.specs.Programs.{Asks, after}
use Rattle.device_calls.specs.Worlds.{Seen}
use Rattle.device_calls.specs.Does.{Does}
use Rattle.device_calls.specs.Printing.{Prints}
use Rattle.device_calls.proofs.Printings.{prints_then}
use Rattle.device_calls.proofs.Doing.{does_done, does_after}
use Rattle.turn_model.specs.Hooking.{polling, hooking}
use Rattle.turn_model.specs.KeptFiles.{KeptFile, keeping}
use Rattle.turn_model.specs.Loading.{FilesLoaded, loading_files}
use Rattle.turn_model.specs.Turns.{Life, Outlook, offering, hosting, acting, turn_asks, input_of, step_of, outlook_with, turn_moment, stop_after, until}
use Rattle.turn_model.specs.Opening.{clearing, outlook_from, opening_step, opening_asks}
use Rattle.life_files.specs.Loading.{LoadsAll}
use Rattle.daemon.specs.Serving.{MakesTurn, MakesOpening}

-- a life as a turn leaves it
abbrev pub left : Client → Option (List HostRow) → List KeptFile → Supervision → ℕ → Option ℕ → ℕ → Life
left client known files hooks moment stop unsent =
    record { client = client; known = known; files = files; hooks = hooks; now = moment; stop = stop; unsent = unsent }

abbrev pub step_with : Client → List Sending → List Job → ClientStep
step_with client sends jobs = record { client = client; sends = sends; reports = []; jobs = jobs }

-- what the client's step asked: its frames, the host calls, the jobs of hooks, and the files
pub record Acts (managed : List Managed) (outlook : Outlook) (step : ClientStep) (moment unsent : ℕ) (known : Option (List HostRow)) (hooks : Supervision)
    (files : List KeptFile) (old new : Seen) (t u : List ℕ) : Type 0 where
  pub one : Seen
  pub two : Seen
  pub three : Seen
  pub t_one : List ℕ
  pub t_two : List ℕ
  pub t_three : List ℕ
  pub offers : Does (offering step.sends 0) unsent old one t t_one
  pub hosts : Does (hosting managed (rows_of step.client) outlook.known) known one two t_one t_two
  pub runs : Does (hooking moment step.jobs outlook.hooks) hooks two three t_two t_three
  pub keeps : Does (keeping step.client.ifaces outlook.files) files three new t_three u

pub acted : (managed : List Managed) (outlook : Outlook) (step : ClientStep) (moment unsent : ℕ) (stop : Option ℕ) (known : Option (List HostRow))
    (hooks : Supervision) (files : List KeptFile) (old new : Seen) (t u : List ℕ)
    → Acts managed outlook step moment unsent known hooks files old new t u
    → Does (acting managed outlook step moment stop) (left step.client known files hooks moment stop unsent) old new t u
acted managed outlook step moment unsent stop known hooks files old new t u acts =
    does_after (offering step.sends 0) _ unsent _ old acts.one new t acts.t_one u acts.offers
    (does_after (hosting managed (rows_of step.client) outlook.known) _ known _ acts.one acts.two new acts.t_one acts.t_two u acts.hosts
    (does_after (hooking moment step.jobs outlook.hooks) _ hooks _ acts.two acts.three new acts.t_two acts.t_three u acts.runs
    (does_after (keeping step.client.ifaces outlook.files) _ files _ acts.three new new acts.t_three u u acts.keeps (does_done _ new u))))

-- ---- a turn

pub acts_as : (managed : List Managed) (life : Life) (wake : Wake) (bytes : List ℕ) (turn : Turn) (hooks : Supervision) (client : Client) (asked : Asked)
    (jobs : List Job) (moment : ℕ) (stop : Option ℕ)
    → turn ≡ input_of life wake bytes → Steps (client_turned turn life.client) client asked → jobs ≡ (client_turned turn life.client).jobs
    → moment ≡ turn_moment life wake → stop ≡ stop_after life.stop wake.event moment
    → acting managed (outlook_with life hooks) (step_with client asked.sends jobs) moment stop
    ≡ acting managed (outlook_with life hooks) (step_of life wake bytes) (turn_moment life wake) (stop_after life.stop wake.event (turn_moment life wake))
acts_as managed life wake bytes turn hooks client asked jobs moment stop turn_is steps jobs_were moment_is stop_is =
    let client_is : client ≡ (step_of life wake bytes).client = steps.goes_on ∙ ap (λ (t : Turn). (client_turned t life.client).client) turn_is in
    let sends_are : asked.sends ≡ (step_of life wake bytes).sends = steps.offers ∙ ap (λ (t : Turn). (client_turned t life.client).sends) turn_is in
    let jobs_are : jobs ≡ (step_of life wake bytes).jobs = jobs_were ∙ ap (λ (t : Turn). (client_turned t life.client).jobs) turn_is in
    let stop_here : stop ≡ stop_after life.stop wake.event (turn_moment life wake) = stop_is ∙ ap (stop_after life.stop wake.event) moment_is in
    λ i. acting managed (outlook_with life hooks) (step_with (client_is i) (sends_are i) (jobs_are i)) (moment_is i) (stop_here i)

pub turns_as : (managed : List Managed) (life to : Life) (wake : Wake) (bytes : List ℕ) (hooks : Supervision) (moment : ℕ) (old mid new : Seen) (t u v : List ℕ)
    → moment ≡ turn_moment life wake
    → Does (polling moment life.hooks) hooks old mid t u
    → Does
    (acting managed (outlook_with life hooks) (step_of life wake bytes) (turn_moment life wake) (stop_after life.stop wake.event (turn_moment life wake)))
    to mid new u v
    → Does (turn_asks managed life wake bytes) to old new t v
unfolding turn_asks
turns_as managed life to wake bytes hooks moment old mid new t u v moment_is polls acts =
    does_after (polling (turn_moment life wake) life.hooks) _ hooks to old mid new t u v
    (subst (λ (m : ℕ). Does (polling m life.hooks) hooks old mid t u) moment_is polls) acts

pub turn_made : (managed : List Managed) (life to : Life) (wake : Wake) (bytes : List ℕ) (turn : Turn) (hooks : Supervision) (client : Client) (asked : Asked)
    (jobs : List Job) (moment : ℕ) (stop asked_until : Option ℕ)
    (old mid new : Seen) (s t u v w : List ℕ)
    → turn ≡ input_of life wake bytes → Steps (client_turned turn life.client) client asked → jobs ≡ (client_turned turn life.client).jobs
    → moment ≡ turn_moment life wake → stop ≡ stop_after life.stop wake.event moment → to.now ≡ moment
    → Prints s t (lines.Turn moment wake.salt wake.event bytes ∷ []) → Does (polling moment life.hooks) hooks old mid t u
    → Does (acting managed (outlook_with life hooks) (step_with client asked.sends jobs) moment stop) to mid new u v
    → Prints v w (lines.Until asked_until ∷ []) → asked_until ≡ until to
    → MakesTurn managed life wake bytes to old new s w
turn_made managed life to wake bytes turn hooks client asked jobs moment stop asked_until old mid new s t u v w turn_is steps jobs_are moment_is stop_is now_is
    line polls acts last until_is =
    let does : Does (turn_asks managed life wake bytes) to old new t v =
    turns_as managed life to wake bytes hooks moment old mid new t u v moment_is polls
    (subst (λ (asks : Asks Life). Does asks to mid new u v)
    (acts_as managed life wake bytes turn hooks client asked jobs moment stop turn_is steps jobs_are moment_is stop_is) acts)
    in
    record {
      calls = does.calls;
      did = does.did;
      lines = prints_then (subst (λ (m : ℕ). Prints s t (lines.Turn m wake.salt wake.event bytes ∷ [])) (sym now_is) line)
          (prints_then does.lines (subst (λ (m : Option ℕ). Prints v w (lines.Until m ∷ [])) until_is last));
    }

-- ---- the opening

-- what the opening asked before the client's step: the asides, and the files that a life keeps
pub record Loads (managed : List Managed) (beginnings : List Beginning) (files : List KeptFile) (old new : Seen) (t u : List ℕ) : Type 0 where
  pub one : Seen
  pub t_one : List ℕ
  pub clears : Does clearing tt old one t t_one
  pub loads : LoadsAll managed beginnings files one new t_one u

-- nothing is known of the host's rows, and no job waits
abbrev pub first_outlook : List KeptFile → Supervision → Outlook
first_outlook files hooks = record { known = None; files = files; hooks = hooks }

-- what the client's step asks is what the opening's is to ask
pub opening_is : (managed : List Managed) (specs : List IfSpec) (begin : Begin) (beginnings : List Beginning) (found : List KeptFile) (hooks : Supervision)
    (client : Client) (asked : Asked) (jobs : List Job) (moment : ℕ) (old mid : Seen) (t u : List ℕ)
    → Steps (opening beginnings specs begin) client asked → jobs ≡ (opening beginnings specs begin).jobs → moment ≡ moment_of begin.at → hooks ≡ idle
    → (p : Loads managed beginnings found old mid t u)
    → acting managed (first_outlook found hooks) (step_with client asked.sends jobs) moment None
    ≡ acting managed (outlook_from managed p.loads.loaded) (opening_step managed p.loads.loaded specs begin) (moment_of begin.at) None
opening_is managed specs begin beginnings found hooks client asked jobs moment old mid t u steps jobs_were moment_is hooks_are p =
    let loaded : FilesLoaded = p.loads.loaded in
    let here : Steps (opening_step managed loaded specs begin) client asked =
    subst (λ (bs : List Beginning). Steps (opening bs specs begin) client asked) p.loads.beginnings_are steps in
    let jobs_are : jobs ≡ (opening_step managed loaded specs begin).jobs =
    subst (λ (bs : List Beginning). jobs ≡ (opening bs specs begin).jobs) p.loads.beginnings_are jobs_were in
    λ i. acting managed (first_outlook (p.loads.files_are i) (hooks_are i)) (step_with (here.goes_on i) (here.offers i) (jobs_are i)) (moment_is i) None

pub opens_as : (managed : List Managed) (specs : List IfSpec) (begin : Begin) (beginnings : List Beginning) (found : List KeptFile) (to : Life)
    (hooks : Supervision) (client : Client) (asked : Asked) (jobs : List Job) (moment : ℕ) (old mid new : Seen) (t u v : List ℕ)
    → Steps (opening beginnings specs begin) client asked → jobs ≡ (opening beginnings specs begin).jobs → moment ≡ moment_of begin.at → hooks ≡ idle
    → Loads managed beginnings found old mid t u
    → Does (acting managed (first_outlook found hooks) (step_with client asked.sends jobs) moment None) to mid new u v
    → Does (opening_asks managed specs begin) to old new t v
unfolding opening_asks
opens_as managed specs begin beginnings found to hooks client asked jobs moment old mid new t u v steps jobs_were moment_is hooks_are p acts =
    let loaded : FilesLoaded = p.loads.loaded in
    let acts_here : Does (acting managed (outlook_from managed loaded) (opening_step managed loaded specs begin) (moment_of begin.at) None) to mid new u v =
    subst (λ (asks : Asks Life). Does asks to mid new u v)
    (opening_is managed specs begin beginnings found hooks client asked jobs moment old mid t u steps jobs_were moment_is hooks_are p) acts in
    does_after clearing
    (λ _. after (loading_files managed)
    (λ files. acting managed (outlook_from managed files) (opening_step managed files specs begin) (moment_of begin.at) None))
    tt to old p.one new t p.t_one v p.clears
    (does_after (loading_files managed)
    (λ files. acting managed (outlook_from managed files) (opening_step managed files specs begin) (moment_of begin.at) None) loaded to p.one mid new
    p.t_one u v p.loads.does acts_here)

pub opening_made : (managed : List Managed) (specs : List IfSpec) (begin : Begin) (beginnings : List Beginning) (found : List KeptFile) (to : Life)
    (hooks : Supervision) (client : Client) (asked : Asked) (jobs : List Job) (moment : ℕ) (asked_until : Option ℕ)
    (old mid new : Seen) (s t u v w : List ℕ)
    → Steps (opening beginnings specs begin) client asked → jobs ≡ (opening beginnings specs begin).jobs → moment ≡ moment_of begin.at → hooks ≡ idle
    → Prints s t (lines.Start begin ∷ [])
    → Loads managed beginnings found old mid t u
    → Does (acting managed (first_outlook found hooks) (step_with client asked.sends jobs) moment None) to mid new u v
    → Prints v w (lines.Until asked_until ∷ []) → asked_until ≡ until to
    → MakesOpening managed specs begin to old new s w
opening_made managed specs begin beginnings found to hooks client asked jobs moment asked_until old mid new s t u v w steps jobs_are moment_is hooks_are line p
    acts last until_is =
    let does : Does (opening_asks managed specs begin) to old new t v =
    opens_as managed specs begin beginnings found to hooks client asked jobs moment old mid new t u v steps jobs_are moment_is hooks_are p acts in
    record {
      calls = does.calls;
      did = does.did;
      lines = prints_then line (prints_then does.lines (subst (λ (m : Option ℕ). Prints v w (lines.Until m ∷ [])) until_is last));
    }
