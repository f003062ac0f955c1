-- That each line of a life may stand in a transcript, in its place.
use Rattle.std.specs.Prelude.{ℕ, ◌<◌, ◌^◌, List, length, Ok}
use Rattle.std.specs.List.{AllByRecursion}
use Rattle.net_types.specs.declared.interface.IfSpec.{IfSpec}
use Rattle.settings.specs.declared.interfaces.Managed.{Managed}
use Rattle.conf_text.specs.Configurations.{Configuration, IsConfOf}
use Rattle.conf_text.specs.Fits.{FitsSpec}
use Rattle.conf_text.specs.Settings.{managed_of}
use Rattle.script_model.specs.Lines.{Start}
use Rattle.device_calls.specs.Worlds.{World}
use Rattle.turn_model.specs.Foretold.{foretold_life}
use Rattle.transcript_lines.specs.Bounds.{FitsTold}
use Rattle.typed_lines.specs.TypedLines.{AreTyped}
use Rattle.transcript_model.specs.LifeShapes.{FitsLife}
use Rattle.transcript_model.specs.Told.{LifeTold, lines_within}
use Rattle.audit_model.specs.LivesTold.{life_lived}
use Rattle.told_lives.specs.FittingWorlds.{AreFitting, FitsWorld}

-- its lines are those of a life, and each is one that a transcript may have
pub record IsWellTold (life : LifeTold) : Type 0 where
  pub shape : FitsLife life
  pub start : FitsTold (Start life.begin)
  pub lines : AllByRecursion FitsTold (lines_within life)

-- the life that devices foretell, as it is told
abbrev pub life_foretold : List Managed → List IfSpec → World → LifeTold
life_foretold managed specs world =
    let lived = foretold_life managed specs world in
    life_lived lived.opening lived.mets

-- how many rows a host lists is a number of 64 bits, and only the length of the text bounds it
abbrev pub IsShort : LifeTold → Type 0
IsShort life = length (lines_within life) < 2 ^ 64

-- its lines are within the types that hold them
abbrev pub IsTypedLife : LifeTold → Type 0
IsTypedLife life = AreTyped (lines_within life)

-- It is told so, and leaves devices that fit again.
pub record TellsWell (managed : List Managed) (specs : List IfSpec) (world : World) : Type 0 where
  pub told : IsShort (life_foretold managed specs world) → IsWellTold (life_foretold managed specs world)
  pub left : let left = (foretold_life managed specs world).left in
      AreFitting left.host.told left.store.told left.hooks.told

-- So is each life of the interfaces that a configuration manages, where its lines are within their types.
abbrev pub LivesAreWellTold : Type 0
LivesAreWellTold =
    (text : List ℕ) (conf : Configuration) → IsConfOf text (Ok conf) → (specs : List IfSpec)
    → AllByRecursion FitsSpec specs → (world : World) → FitsWorld world
    → IsTypedLife (life_foretold (managed_of conf specs) specs world) → TellsWell (managed_of conf specs) specs world
