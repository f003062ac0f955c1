-- What hooks and the resolver are told in a life: texts that are safe to read, and variables that are what their names
-- say, whatever servers, files and frames said.
use Rattle.std.specs.Prelude.{List, [], ◌∷◌, ◌++◌, flat_map}
use Rattle.std.specs.List.{AllByRecursion}
use Rattle.net_types.specs.declared.interface.IfSpec.{IfSpec}
use Rattle.settings.specs.declared.interfaces.Managed.{Managed}
use Rattle.script_model.specs.ScriptTexts.{LifeScript}
use Rattle.device_calls.specs.Calls.{Call}
use Rattle.device_calls.specs.Worlds.{World}
use Rattle.turn_model.specs.Foretold.{foretold_life}
use Rattle.turn_model.specs.Lives.{turns_calls}
use Rattle.daemon.specs.SafeTexts.SafeJobs.{AreSafeJobs, job_in}
use Rattle.daemon.specs.SafeTexts.ConfiguredTexts.{HasPlainVariables}
use Rattle.daemon.specs.SafeTexts.ResolverLines.{IsLinesCall}
use Rattle.daemon.specs.ExactTexts.ExactJobs.{AreExactJobs}
use Rattle.replayed_lives.specs.Replays.{Failing, Between, world_in, after_life}

-- the calls of the life that these devices foretell
abbrev pub life_calls : List Managed → List IfSpec → World → List Call
life_calls managed specs world =
    let lived = foretold_life managed specs world in
    lived.opening.calls ++ turns_calls lived.opening.life lived.mets

-- Each job that it starts or drops is of a managed interface and runs the script that is configured there; what is made
-- of its event is of the form that its name tells, and is what this says, and each of its variables is printable. Each
-- text that is written to take the place of the resolver's file is lines of names and addresses.
pub record TellsSafely (managed : List Managed) (specs : List IfSpec) (world : World) : Type 0 where
  pub jobs : AreSafeJobs managed (flat_map job_in (life_calls managed specs world))
  pub exact : AreExactJobs managed (flat_map job_in (life_calls managed specs world))
  pub variables : AllByRecursion HasPlainVariables (flat_map job_in (life_calls managed specs world))
  pub resolver : AllByRecursion IsLinesCall (life_calls managed specs world)

-- so it is in each life of a script
abbrev pub AllTellSafely : List Managed → List IfSpec → Failing → Between → List LifeScript → Type 0
AllTellSafely managed specs failing between [] = Unit {0}
AllTellSafely managed specs failing between (life ∷ lives) =
    TellsSafely managed specs (world_in failing between life)
    × AllTellSafely managed specs failing (after_life managed specs failing between life) lives
