-- That what hooks and the resolver are told is safe to read, and what hooks are given is what its names say: in the
-- calls of each life, wherever it is cut off.
use Rattle.std.specs.Prelude.{List, flat_map}
use Rattle.std.specs.List.{AllByRecursion}
use Rattle.net_types.specs.declared.interface.IfSpec.{IfSpec}
use Rattle.settings.specs.Fitting.{AreManaged}
use Rattle.settings.specs.declared.interfaces.Managed.{Managed}
use Rattle.device_calls.specs.Calls.{Call}
use Rattle.turn_model.specs.LifeFronts.{FrontOfLife}
use Rattle.safe_texts.specs.SafeCalls.{GivesBytes, TellSafely}
use Rattle.safe_texts.specs.SafeJobs.{job_in}
use Rattle.exact_texts.specs.ExactJobs.{AreExactJobs}

-- It is safe to read. Where the frames that came in are bytes, each variable that was made for a job that was started
-- or dropped is what its form says.
pub record TellExactly (managed : List Managed) (calls : List Call) : Type 0 where
  pub safe : TellSafely managed calls
  pub exact : AllByRecursion GivesBytes calls → AreExactJobs managed (flat_map job_in calls)

-- So it is of the calls of each life up to any moment, whatever they were answered.
abbrev pub LivesTellExactly : Type 0
LivesTellExactly = (managed : List Managed) (specs : List IfSpec) (calls : List Call) → AreManaged managed
    → FrontOfLife managed specs calls → TellExactly managed calls
