-- That what hooks and the resolver are told is safe to read in the calls of each life, wherever it is cut off.
use Rattle.std.specs.Prelude.{List, flat_map, Some}
use Rattle.std.specs.List.{AllByRecursion}
use Rattle.net_types.specs.Marks.{AreBytes}
use Rattle.net_types.specs.declared.interface.IfSpec.{IfSpec}
use Rattle.world.specs.LinkCalls.{Waited}
use Rattle.settings.specs.Fitting.{AreManaged}
use Rattle.settings.specs.declared.interfaces.Managed.{Managed}
use Rattle.device_calls.specs.Calls.{Call, Link}
use Rattle.turn_model.specs.LifeFronts.{FrontOfLife}
use Rattle.safe_texts.specs.ConfiguredTexts.{HasPlainVariables, IsPlainlyConfigured}
use Rattle.safe_texts.specs.ResolverLines.{HasServers, IsLinesCall}
use Rattle.safe_texts.specs.SafeJobs.{AreSafeJobs, job_in}

-- the frame that came in is bytes, as what a link gives is
abbrev pub GivesBytes : Call → Type 0
GivesBytes (Link (Waited until (Some given))) = AreBytes given.bytes
GivesBytes call = Unit {0}

-- Each job that was started or dropped is of a managed interface and runs its script, and what is made of its event is
-- safe. Where what is configured is plain, each variable is printable. Where the configured name servers are addresses
-- and frames are bytes, each text that was written to take the place of the resolver's file is lines of names and
-- addresses.
pub record TellSafely (managed : List Managed) (calls : List Call) : Type 0 where
  pub jobs : AreSafeJobs managed (flat_map job_in calls)
  pub variables : AllByRecursion IsPlainlyConfigured managed
      → AllByRecursion HasPlainVariables (flat_map job_in calls)
  pub resolver : AllByRecursion HasServers managed → AllByRecursion GivesBytes calls
      → AllByRecursion IsLinesCall calls

-- So it is of the calls of each life up to any moment, whatever they were answered.
abbrev pub LivesTellSafely : Type 0
LivesTellSafely = (managed : List Managed) (specs : List IfSpec) (calls : List Call) → AreManaged managed
    → FrontOfLife managed specs calls → TellSafely managed calls
