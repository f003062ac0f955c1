-- That what a configuration says for hooks and for the resolver is safe to read too.
use Rattle.std.specs.Prelude.{◌≡◌, ℕ, ◌≤◌, List, ◌++◌, flat_map, length, Ok}
use Rattle.std.specs.List.{AllByRecursion}
use Rattle.net_types.specs.declared.interface.IfSpec.{IfSpec}
use Rattle.net_types.specs.Marks.{IsPrintable, Lacks}
use Rattle.world.specs.HookCalls.{Job, Variable}
use Rattle.settings.specs.HookSettings.{ScriptContent, Nothing, Default, At}
use Rattle.settings.specs.declared.interfaces.Managed.{Managed}
use Rattle.conf_text.specs.Configurations.{Configuration, IsConfOf}
use Rattle.conf_text.specs.Fits.{FitsSpec}
use Rattle.conf_text.specs.Settings.{managed_of}
use Rattle.turn_model.specs.Lives.{AreTurns, IsOpening, Met, OpeningMet, turns_calls}
use Rattle.safe_texts.specs.ResolverLines.{AreOctets, HasServers, IsLife}
use Rattle.safe_texts.specs.SafeJobs.{job_in}

-- its name has a byte or more, and no `=`, after which a value begins
pub record IsPlainVariable (variable : Variable) : Type 0 where
  pub name : IsPrintable variable.name
  pub some : 1 ≤ length variable.name
  pub parted : Lacks 61 variable.name
  pub value : IsPrintable variable.value

abbrev pub HasPlainPath : ScriptContent → Type 0
HasPlainPath Nothing = Unit {0}
HasPlainPath Default = Unit {0}
HasPlainPath (At path) = IsPrintable path

-- `env` and `script` say printable texts, and the name servers are addresses
pub record IsPlainlyConfigured (managed : Managed) : Type 0 where
  pub env : AllByRecursion IsPlainVariable managed.conf.hooks.env
  pub script : HasPlainPath managed.conf.hooks.script
  pub servers : HasServers managed

-- So it is of each interface that a configuration manages.
abbrev pub ConfiguredTextsAreSafe : Type 0
ConfiguredTextsAreSafe = (text : List ℕ) (conf : Configuration) → IsConfOf text (Ok conf) → (specs : List IfSpec)
    → AllByRecursion IsPlainlyConfigured (managed_of conf specs)

-- ---- lives

-- the life of the interfaces that the configuration of a text manages: `specs` are all interfaces
pub record IsConfiguredLife (text : List ℕ) (managed : List Managed) (specs : List IfSpec) (opening : OpeningMet)
    (mets : List Met) : Type 0 where
  pub conf : Configuration
  pub reads : IsConfOf text (Ok conf)
  pub each : AllByRecursion FitsSpec specs
  pub manages : managed ≡ managed_of conf specs
  pub opens : IsOpening managed specs opening
  pub turns : AreTurns managed opening.life mets

abbrev pub HasPlainVariables : Job → Type 0
HasPlainVariables job = AllByRecursion IsPlainVariable job.vars

-- Each variable of each job that such a life starts or drops is printable, whatever came in.
abbrev pub VariablesArePrintable : Type 0
VariablesArePrintable =
    (text : List ℕ) (managed : List Managed) (specs : List IfSpec) (opening : OpeningMet) (mets : List Met)
    → IsConfiguredLife text managed specs opening mets
    → AllByRecursion HasPlainVariables (flat_map job_in (opening.calls ++ turns_calls opening.life mets))

-- Where the frames that came in are bytes, it is one in which the resolver is told lines.
abbrev pub ConfiguredLivesAreLives : Type 0
ConfiguredLivesAreLives =
    (text : List ℕ) (managed : List Managed) (specs : List IfSpec) (opening : OpeningMet) (mets : List Met)
    → IsConfiguredLife text managed specs opening mets → AreOctets mets → IsLife managed specs opening mets
