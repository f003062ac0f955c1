-- What an opening and a turn ask, part after part, whatever is answered; which of these are calls of one device.
use Rattle.std.proofs.Common.{◌≡◌, ℕ, List, [], ◌++◌, Option, None, refl, sym, ap, subst, ◌∙◌, append-nil}
use Rattle.std.specs.Prelude.{flat_map}
use Rattle.std.proofs.lemmas.List.Concat.{flat_map-append}
use Rattle.net_types.specs.declared.interface.IfSpec.{IfSpec}
use Rattle.world.specs.declared.rows.HostRow.{HostRow}
use Rattle.world.specs.declared.wakes.Begin.{Begin}
use Rattle.world.specs.declared.wakes.Wake.{Wake}
use Rattle.settings.specs.declared.interfaces.Managed.{Managed}
use Rattle.machine.specs.Moment.{moment_of}
use Rattle.client_model.specs.Clients.{ClientStep, rows_of}
use Rattle.device_calls.specs.Calls.{Ask, AnswerTo, Call, made}
use Rattle.device_calls.specs.Programs.{Asks, Done, Then, after, Answers, calls_with, Makes}
use Rattle.device_calls.proofs.Programs.{MakesBoth, makes_both}
use Rattle.turn_model.specs.HookChild.Supervision.{Supervision}
use Rattle.turn_model.specs.Hooking.{hooking, polling}
use Rattle.turn_model.specs.KeptFiles.{KeptFile, keeping}
use Rattle.turn_model.specs.Loading.{FilesLoaded, loading_files}
use Rattle.turn_model.specs.Opening.{clearing, outlook_from, opening_step, opening_asks}
use Rattle.turn_model.specs.Turns.{Life, Outlook, offering, hosting, acting, turn_moment, stop_after, step_of, outlook_with, turn_asks}
use Rattle.turn_model.proofs.Asking.{AsksOnly}

-- ---- one device

module _ {C : Type 0} (own : Call → List C) where
  -- the calls of one device
  abbrev pub part : List Call → List C
  part calls = flat_map own calls

  pub parts_of : (a b : List Call) → part (a ++ b) ≡ part a ++ part b
  parts_of a b = flat_map-append own a b

  -- a question that isn't for the device
  abbrev pub Quiet : Ask → Type 0
  Quiet ask = (answer : AnswerTo ask) → own (made ask answer) ≡ []

  none_asked : {A : Type 0} (asks : Asks A) → AsksOnly Quiet asks → (answers : Answers asks) → part (calls_with asks answers) ≡ []
  none_asked (Done x) only answers = refl
  none_asked (Then ask next) only answers =
      ap (λ calls. calls ++ part (calls_with (next answers.0) answers.1)) (only.0 answers.0) ∙ none_asked (next answers.0) (only.1 answers.0) answers.1

  pub none_made : {A : Type 0} (asks : Asks A) → AsksOnly Quiet asks → (calls : List Call) (result : A) → Makes asks calls result → part calls ≡ []
  none_made asks only calls result makes = ap part makes.calls_are ∙ none_asked asks only makes.answers

  -- what comes before, or after, asks the device nothing
  pub first_quiet : (calls a b : List Call) → calls ≡ a ++ b → part a ≡ [] → part calls ≡ part b
  first_quiet calls a b e none = ap part e ∙ parts_of a b ∙ ap (λ xs. xs ++ part b) none

  pub then_quiet : (calls a b : List Call) → calls ≡ a ++ b → part b ≡ [] → part calls ≡ part a
  then_quiet calls a b e none = ap part e ∙ parts_of a b ∙ ap (λ xs. part a ++ xs) none ∙ append-nil (part a)

-- ---- the step of a turn

-- what a step asked, part after part, and what came of it
pub record StepMade (managed : List Managed) (outlook : Outlook) (step : ClientStep) (calls : List Call) (life : Life) : Type 0 where
  pub sends : List Call
  pub host : List Call
  pub hooks : List Call
  pub store : List Call
  pub unsent : ℕ
  pub supervision : Supervision
  pub moment : ℕ
  pub makes_sends : Makes (offering step.sends 0) sends unsent
  pub makes_host : Makes (hosting managed (rows_of step.client) outlook.known) host life.known
  pub makes_hooks : Makes (hooking moment step.jobs outlook.hooks) hooks supervision
  pub makes_store : Makes (keeping step.client.ifaces outlook.files) store life.files
  pub calls_are : calls ≡ sends ++ (host ++ (hooks ++ store))
  pub client_is : life.client ≡ step.client

module _ (managed : List Managed) (outlook : Outlook) (step : ClientStep) (moment : ℕ) (stop : Option ℕ) where
  abbrev finish : ℕ → Option (List HostRow) → Supervision → List KeptFile → Asks Life
  finish unsent known hooks files =
      Done
      (record {
        client = step.client;
        known = known;
        files = files;
        hooks = hooks;
        now = moment;
        stop = stop;
        unsent = unsent;
      })

  abbrev keep_then : ℕ → Option (List HostRow) → Supervision → Asks Life
  keep_then unsent known hooks = after (keeping step.client.ifaces outlook.files) (λ files. finish unsent known hooks files)

  abbrev hook_then : ℕ → Option (List HostRow) → Asks Life
  hook_then unsent known = after (hooking moment step.jobs outlook.hooks) (λ hooks. keep_then unsent known hooks)

  abbrev host_then : ℕ → Asks Life
  host_then unsent = after (hosting managed (rows_of step.client) outlook.known) (λ known. hook_then unsent known)

  pub step_made : (calls : List Call) (life : Life) → Makes (acting managed outlook step moment stop) calls life → StepMade managed outlook step calls life
  step_made calls life makes =
      let sent = makes_both (offering step.sends 0) (λ unsent. host_then unsent) calls life makes in
      let hosted =
      makes_both (hosting managed (rows_of step.client) outlook.known) (λ known. hook_then sent.between known) sent.later life sent.makes_later in
      let hooked =
      makes_both (hooking moment step.jobs outlook.hooks) (λ hooks. keep_then sent.between hosted.between hooks) hosted.later life hosted.makes_later in
      let kept =
      makes_both (keeping step.client.ifaces outlook.files) (λ files. finish sent.between hosted.between hooked.between files) hooked.later life
      hooked.makes_later in
      let end : hooked.later ≡ kept.first =
      kept.calls_are ∙ ap (λ cs. kept.first ++ cs) kept.makes_later.calls_are ∙ append-nil kept.first in
      let known_is : life.known ≡ hosted.between = ap (λ (l : Life). l.known) kept.makes_later.result_is in
      let files_are : life.files ≡ kept.between = ap (λ (l : Life). l.files) kept.makes_later.result_is in
      record {
        sends = sent.first;
        host = hosted.first;
        hooks = hooked.first;
        store = kept.first;
        unsent = sent.between;
        supervision = hooked.between;
        moment = moment;
        makes_sends = sent.makes_first;
        makes_host =
            subst (λ (k : Option (List HostRow)). Makes (hosting managed (rows_of step.client) outlook.known) hosted.first k) (sym known_is)
            hosted.makes_first;
        makes_hooks = hooked.makes_first;
        makes_store =
            subst (λ (fs : List KeptFile). Makes (keeping step.client.ifaces outlook.files) kept.first fs) (sym files_are) kept.makes_first;
        calls_are = sent.calls_are
            ∙ ap (λ cs. sent.first ++ cs) (hosted.calls_are ∙ ap (λ cs. hosted.first ++ cs) (hooked.calls_are ∙ ap (λ cs. hooked.first ++ cs) end));
        client_is = ap (λ (l : Life). l.client) kept.makes_later.result_is;
      }

-- ---- a turn, and an opening

module _ (managed : List Managed) (from : Life) (wake : Wake) (bytes : List ℕ) where
  abbrev pub turn_step : Supervision → Asks Life
  turn_step hooks =
      acting managed (outlook_with from hooks) (step_of from wake bytes) (turn_moment from wake) (stop_after from.stop wake.event (turn_moment from wake))

  pub turn_parts : (calls : List Call) (life : Life) → Makes (turn_asks managed from wake bytes) calls life
      → MakesBoth (polling (turn_moment from wake) from.hooks) (λ hooks. turn_step hooks) calls life
  unfolding turn_asks
  turn_parts calls life makes = makes_both (polling (turn_moment from wake) from.hooks) (λ hooks. turn_step hooks) calls life makes

module _ (managed : List Managed) (specs : List IfSpec) (begin : Begin) where
  abbrev pub opened_step : FilesLoaded → Asks Life
  opened_step files = acting managed (outlook_from managed files) (opening_step managed files specs begin) (moment_of begin.at) None

  pub opening_parts : (calls : List Call) (life : Life) → Makes (opening_asks managed specs begin) calls life
      → MakesBoth clearing (λ _. after (loading_files managed) (λ files. opened_step files)) calls life
  unfolding opening_asks
  opening_parts calls life makes = makes_both clearing (λ _. after (loading_files managed) (λ files. opened_step files)) calls life makes
