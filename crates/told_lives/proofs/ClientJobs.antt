-- What a client says is on its interfaces, and its jobs name these.
use Rattle.std.proofs.Common.{List, [], ◌∷◌, flat_map, map, refl, sym, subst, ◌∙◌}
use Rattle.std.specs.Prelude.{IsTrue}
use Rattle.std.specs.List.{AllByRecursion, Contains}
use Rattle.std.proofs.lemmas.Bool.{le-leb}
use Rattle.std.proofs.lemmas.List.Elements.{All-contains, All-from_recursion}
use Rattle.net_types.specs.declared.interface.IfSpec.{IfSpec}
use Rattle.net_types.specs.Marks.{is_printable}
use Rattle.net_types.specs.NameText.{is_name}
use Rattle.net_types.proofs.AllLaws.{all_join, all_map, all_mapped}
use Rattle.net_types.proofs.MarkLaws.{lacks_from}
use Rattle.machine.specs.Moment.{moment_of}
use Rattle.world.specs.HookCalls.{Job, Variable}
use Rattle.world.specs.Rows.{IsInterface}
use Rattle.world.specs.declared.wakes.Begin.{Begin}
use Rattle.settings.specs.declared.interfaces.Managed.{Managed}
use Rattle.settings.specs.Fitting.{AreManaged, FitsManaged}
use Rattle.v4_message.specs.Requests.{AskContent}
use Rattle.client_model.specs.declared.interfaces.Iface.{Iface}
use Rattle.client_model.specs.Clients.{Client, client_turned, sends_of, spelled, steps_of}
use Rattle.client_model.specs.IfaceSteps.{IfaceStep}
use Rattle.client_model.specs.IfaceTurns.{Turn}
use Rattle.client_model.specs.Interfaces.{opened, resting}
use Rattle.client_model.specs.KeptLeases.{Beginning}
use Rattle.client_model.specs.Messages.{Said}
use Rattle.turn_model.specs.Loading.{FilesLoaded, beginnings_of, duid_with}
use Rattle.turn_model.specs.Opening.{opening_step}
use Rattle.turn_model.proofs.Loading.{beginnings_managed}
use Rattle.safe_texts.specs.ConfiguredTexts.{IsPlainVariable, IsPlainlyConfigured}
use Rattle.safe_texts.specs.SafeJobs.{AreSafeJobs, IsSafeJob}
use Rattle.safe_texts.proofs.ConfiguredLives.{job_plain}
use Rattle.safe_texts.proofs.StepJobs.{IsHolder, OfHolder, all_holders, opened_hold, opening_safe, turn_safe, turned_hold}
use Rattle.told_lives.proofs.Answering.{FitsJob, IsToldVariable}
use Rattle.told_lives.proofs.FittingTurns.{AreLoaded, FitsSending, FitsStep, KeepsFitting}

-- ---- variables

variable_told : (variable : Variable) → IsPlainVariable variable → IsToldVariable variable
variable_told variable plain = record {
  fits = record {
    parted = plain.parted;
    name_within = lacks_from is_printable 10 variable.name refl plain.name;
    value_within = lacks_from is_printable 10 variable.value refl plain.value;
  };
  told = le-leb 1 _ plain.some;
}

module _ (managed : List Managed) (fit : AreManaged managed) (plain : AllByRecursion IsPlainlyConfigured managed) where
  -- ---- jobs

  holder_fits : (m : Managed) → Contains managed m → FitsManaged m
  holder_fits m among = All-contains FitsManaged managed m (All-from_recursion FitsManaged managed fit) among

  job_fits : (job : Job) → IsSafeJob managed job → FitsJob job
  job_fits job safe = record {
    name = subst (λ name. IsTrue (is_name name)) (sym safe.named) (holder_fits safe.holder safe.among).name.spelled;
    vars = all_map IsPlainVariable IsToldVariable variable_told job.vars (job_plain managed plain job safe);
  }

  jobs_fit : (jobs : List Job) → AreSafeJobs managed jobs → AllByRecursion FitsJob jobs
  jobs_fit jobs safe = all_map (IsSafeJob managed) FitsJob job_fits jobs safe

  -- ---- frames

  abbrev AllHold : List Iface → Type 0
  AllHold ifaces = AllByRecursion (OfHolder managed) ifaces

  said_on : (spec : IfSpec) (ask : AskContent) → IsInterface spec.index.number → (said : List Said) → AllByRecursion FitsSending (map (spelled spec ask) said)
  said_on spec ask on [] = tt
  said_on spec ask on (one ∷ said) = (on, said_on spec ask on said)

  sends_on : (steps : List IfaceStep) → AllHold (map (λ (step : IfaceStep). step.iface) steps) → AllByRecursion FitsSending (flat_map sends_of steps)
  sends_on [] all = tt
  sends_on (step ∷ steps) all =
      all_join FitsSending (sends_of step) (flat_map sends_of steps)
      (said_on step.iface.managed.spec step.iface.dhcp4.settings.ask (holder_fits step.iface.managed all.0.among).index step.said) (sends_on steps all.1)

  -- ---- steps

  -- each interface of the client is a managed one
  abbrev pub Holds : Client → Type 0
  Holds client = AllHold client.ifaces

  turn_fits : (client : Client) (turn : Turn) → Holds client → FitsStep Holds (client_turned turn client)
  turn_fits client turn all =
      let hold : AllHold (map (λ (step : IfaceStep). step.iface) (steps_of turn client)) = turned_hold managed client.own turn client.ifaces all in
      record {
        client = hold;
        sends = sends_on (steps_of turn client) hold;
        jobs = jobs_fit (client_turned turn client).jobs (turn_safe managed client.own turn client.ifaces all);
      }

  all_begin : (files : FilesLoaded) → AreLoaded managed files → AllByRecursion (λ (b : Beginning). OfHolder managed (resting b)) (beginnings_of managed files)
  all_begin files are =
      all_mapped (IsHolder managed) (λ (b : Beginning). b.managed) (beginnings_of managed files)
      (subst (AllByRecursion (IsHolder managed)) (sym (beginnings_managed (duid_with managed files) files.ifaces ∙ are)) (all_holders managed fit))

  opening_fits : (specs : List IfSpec) (files : FilesLoaded) (begin : Begin) → AreLoaded managed files → FitsStep Holds (opening_step managed files specs begin)
  opening_fits specs files begin are =
      let begins = all_begin files are in
      let steps : List IfaceStep = map (opened begin.up (moment_of begin.at) begin.salt) (beginnings_of managed files) in
      let hold : AllHold (map (λ (step : IfaceStep). step.iface) steps) =
      opened_hold managed begin.up (moment_of begin.at) begin.salt (beginnings_of managed files) begins in
      record {
        client = hold;
        sends = sends_on steps hold;
        jobs = jobs_fit (opening_step managed files specs begin).jobs
            (opening_safe managed begin.up (moment_of begin.at) begin.salt (beginnings_of managed files) begins);
      }

  pub keeps_fitting : (specs : List IfSpec) → KeepsFitting managed specs Holds
  keeps_fitting specs = record { opened = opening_fits specs; turned = turn_fits }
