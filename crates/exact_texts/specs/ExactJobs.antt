-- That what hooks are given is what its names say: in each whole life, whatever came in.
use Rattle.std.specs.Prelude.{◌≡◌, ℕ, List, ◌++◌, flat_map, Some, Ok}
use Rattle.std.specs.List.{AllByRecursion, Contains}
use Rattle.net_types.specs.Marks.{AreBytes}
use Rattle.net_types.specs.NameText.{name_text}
use Rattle.net_types.specs.declared.interface.IfSpec.{IfSpec}
use Rattle.world.specs.HookCalls.{Job, Variable}
use Rattle.settings.specs.Fitting.{AreManaged}
use Rattle.settings.specs.declared.interfaces.Managed.{Managed}
use Rattle.conf_text.specs.Configurations.{Configuration, IsConfOf}
use Rattle.conf_text.specs.Fits.{FitsSpec}
use Rattle.conf_text.specs.Settings.{managed_of}
use Rattle.client_model.specs.Jobs.{script_path}
use Rattle.device_calls.specs.CallLines.{interface_of}
use Rattle.device_calls.specs.Calls.{Call}
use Rattle.device_calls.specs.Worlds.{World}
use Rattle.turn_model.specs.Foretold.{foretold_life}
use Rattle.turn_model.specs.Lives.{AreTurns, IsOpening, Met, OpeningMet, turns_calls}
use Rattle.safe_texts.specs.ConfiguredTexts.{IsConfiguredLife}
use Rattle.safe_texts.specs.ExactVariables.{AreExact}
use Rattle.safe_texts.specs.ResolverLines.{AreOctets}
use Rattle.safe_texts.specs.SafeJobs.{job_in}

-- It is of a managed interface, which it names, and runs the script that is configured there. Each variable that is
-- made of its event is what its form says, and behind these stand those that are configured for its hooks, as they were
-- configured.
pub record IsExactJob (managed : List Managed) (job : Job) : Type 0 where
  pub holder : Managed
  pub among : Contains managed holder
  pub iface : job.iface ≡ holder.spec.index.number
  pub named : interface_of job ≡ name_text holder.spec.name
  pub script : script_path holder.conf.hooks.script ≡ Some job.script
  pub made : List Variable
  pub vars : job.vars ≡ made ++ holder.conf.hooks.env
  pub exact : AreExact made

abbrev pub AreExactJobs : List Managed → List Job → Type 0
AreExactJobs managed jobs = AllByRecursion (IsExactJob managed) jobs

-- Each job that a life starts or drops is so, whatever the devices answered, where the frames that came in are bytes.
abbrev pub LifeJobsAreExact : Type 0
LifeJobsAreExact =
    (managed : List Managed) (specs : List IfSpec) (opening : OpeningMet) (mets : List Met) → AreManaged managed
    → IsOpening managed specs opening → AreTurns managed opening.life mets → AreOctets mets
    → AreExactJobs managed (flat_map job_in (opening.calls ++ turns_calls opening.life mets))

-- So it is in the life of the interfaces that a configuration manages.
abbrev pub ConfiguredJobsAreExact : Type 0
ConfiguredJobsAreExact =
    (text : List ℕ) (managed : List Managed) (specs : List IfSpec) (opening : OpeningMet) (mets : List Met)
    → IsConfiguredLife text managed specs opening mets → AreOctets mets
    → AreExactJobs managed (flat_map job_in (opening.calls ++ turns_calls opening.life mets))

-- ---- over devices that tell what they hold

-- the calls of the life that they foretell
abbrev pub foretold_calls : List Managed → List IfSpec → World → List Call
foretold_calls managed specs world =
    let lived = foretold_life managed specs world in
    lived.opening.calls ++ turns_calls lived.opening.life lived.mets

-- So it is in that life, where what the link will bring is bytes.
abbrev pub ForetoldJobsAreExact : Type 0
ForetoldJobsAreExact =
    (text : List ℕ) (conf : Configuration) (specs : List IfSpec) (world : World) → IsConfOf text (Ok conf)
    → AllByRecursion FitsSpec specs → AllByRecursion (λ given. AreBytes given.bytes) world.link.told.coming
    → AreExactJobs (managed_of conf specs) (flat_map job_in (foretold_calls (managed_of conf specs) specs world))
