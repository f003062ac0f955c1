-- What a crash may leave of the files at each moment of a life, wherever it is cut off and whatever its calls are
-- answered.
use Rattle.std.specs.Prelude.{ℕ, List, [], ◌++◌, map, flat_map, Option, Some}
use Rattle.net_types.specs.declared.interface.IfSpec.{IfSpec}
use Rattle.world.specs.StoreFails.{StoreFails}
use Rattle.world.specs.StoreCalls.{StoreTold}
use Rattle.world.specs.SoundStores.{IsSound}
use Rattle.file_choices.specs.StoreWalks.{Goes}
use Rattle.file_choices.specs.LeftWhole.{StayWhole}
use Rattle.settings.specs.declared.interfaces.Managed.{Managed}
use Rattle.device_calls.specs.Calls.{Call, store_call}
use Rattle.device_calls.specs.Worlds.{World}
use Rattle.turn_model.specs.Lives.{turns_calls}
use Rattle.turn_model.specs.Foretold.{ForetoldLife, foretold_life}
use Rattle.turn_model.specs.FilesInLife.{Filed, filed_by}
use Rattle.turn_model.specs.LifeFronts.{FrontOfLife}

-- the names of the files that a life keeps, which don't depend on the DUID
abbrev pub kept_names : List Managed → List (List ℕ)
kept_names managed = map (λ (filed : Filed). filed.name) (filed_by [] managed)

-- the files at each moment of some calls of a life
abbrev pub FilesStayWhole : Option StoreFails → List Managed → List Call → StoreTold → Type 0
FilesStayWhole failing managed calls before = StayWhole failing (kept_names managed) (flat_map store_call calls) before

-- wherever it is cut off, and whatever its calls are answered
abbrev pub LifeStaysWhole : Type 0
LifeStaysWhole = (managed : List Managed) (specs : List IfSpec) (calls : List Call) → FrontOfLife managed specs calls
    → (failing : Option StoreFails) (before : StoreTold) → FilesStayWhole failing managed calls before

-- the calls of a life that devices foretell
abbrev pub foretold_calls : ForetoldLife → List Call
foretold_calls life = life.opening.calls ++ turns_calls life.opening.life life.mets

-- The store tells the calls of that life, one after another; at each moment of them each file is whole, and the store
-- is left sound.
pub record LivesWhole (managed : List Managed) (specs : List IfSpec) (world : World) : Type 0 where
  pub goes : Goes (Some world.store.failing)
      (flat_map store_call (foretold_calls (foretold_life managed specs world))) world.store.told
      (foretold_life managed specs world).left.store.told
  pub whole : FilesStayWhole (Some world.store.failing) managed
      (foretold_calls (foretold_life managed specs world)) world.store.told
  pub sound : IsSound (foretold_life managed specs world).left.store.told

-- so each over a sound store
abbrev pub ForetoldLivesWhole : Type 0
ForetoldLivesWhole =
    (managed : List Managed) (specs : List IfSpec) (world : World) → IsSound world.store.told
    → LivesWhole managed specs world
