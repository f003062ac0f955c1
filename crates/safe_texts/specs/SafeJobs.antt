-- That what hooks are given is safe to read: in each step of the client, and each life.
use Rattle.std.specs.Prelude.{◌≡◌, List, [], ◌∷◌, ◌++◌, flat_map, map, Some}
use Rattle.std.specs.List.{AllByRecursion, Contains}
use Rattle.net_types.specs.NameText.{name_text}
use Rattle.net_types.specs.declared.interface.IfSpec.{IfSpec}
use Rattle.world.specs.HookCalls.{HookCall, Job, Variable, Started, Polled, Abandoned}
use Rattle.world.specs.declared.wakes.Begin.{Begin}
use Rattle.settings.specs.declared.interfaces.Managed.{Managed}
use Rattle.settings.specs.Fitting.{AreManaged}
use Rattle.client_model.specs.Clients.{Client, client_turned, opening}
use Rattle.client_model.specs.IfaceTurns.{Turn}
use Rattle.client_model.specs.Jobs.{script_path}
use Rattle.client_model.specs.KeptLeases.{Beginning}
use Rattle.device_calls.specs.CallLines.{interface_of}
use Rattle.device_calls.specs.Calls.{Call, Link, Host, Store, Hook, Dropped}
use Rattle.turn_model.specs.Lives.{OpeningMet, Met, IsOpening, AreTurns, turns_calls}
use Rattle.safe_texts.specs.SafeVariables.{AreSafe}

-- ---- a job

-- It is of a managed interface, which it names, and runs the script that is configured there. What is made of its event
-- is safe, and behind that stands what is configured for its hooks, as it was configured.
pub record IsSafeJob (managed : List Managed) (job : Job) : Type 0 where
  pub holder : Managed
  pub among : Contains managed holder
  pub iface : job.iface ≡ holder.spec.index.number
  pub named : interface_of job ≡ name_text holder.spec.name
  pub script : script_path holder.conf.hooks.script ≡ Some job.script
  pub made : List Variable
  pub vars : job.vars ≡ made ++ holder.conf.hooks.env
  pub safe : AreSafe made

abbrev pub AreSafeJobs : List Managed → List Job → Type 0
AreSafeJobs managed jobs = AllByRecursion (IsSafeJob managed) jobs

-- ---- a step of the client

abbrev pub begun : List Beginning → List Managed
begun beginnings = map (λ beginning. beginning.managed) beginnings

abbrev pub managed_by : Client → List Managed
managed_by client = map (λ iface. iface.managed) client.ifaces

-- the jobs of its opening, whatever leases were kept
abbrev pub OpeningJobsAreSafe : Type 0
OpeningJobsAreSafe = (beginnings : List Beginning) (specs : List IfSpec) (begin : Begin) → AreManaged (begun beginnings)
    → AreSafeJobs (begun beginnings) (opening beginnings specs begin).jobs

-- and of each turn, in any state and whatever came in
abbrev pub TurnJobsAreSafe : Type 0
TurnJobsAreSafe = (client : Client) (turn : Turn) → AreManaged (managed_by client)
    → AreSafeJobs (managed_by client) (client_turned turn client).jobs

-- ---- a life

-- the job that a call starts, or that is dropped
abbrev pub job_started : HookCall → List Job
job_started (Started job done) = job ∷ []
job_started (Polled answer) = []
job_started Abandoned = []

abbrev pub job_in : Call → List Job
job_in (Link call) = []
job_in (Host call) = []
job_in (Store call) = []
job_in (Hook number call) = job_started call
job_in (Dropped job) = job ∷ []

-- Each job that a life starts or drops is safe, whatever the devices answered.
abbrev pub LifeJobsAreSafe : Type 0
LifeJobsAreSafe =
    (managed : List Managed) (specs : List IfSpec) (opening : OpeningMet) (mets : List Met) → AreManaged managed
    → IsOpening managed specs opening → AreTurns managed opening.life mets
    → AreSafeJobs managed (flat_map job_in (opening.calls ++ turns_calls opening.life mets))
