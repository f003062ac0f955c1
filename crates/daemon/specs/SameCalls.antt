-- A file is saved and removed, and asides are cleared, by the same calls, whether the loop asks for one after another
-- or `lease_file` makes them at once.
use Rattle.std.specs.Prelude.{ℕ, ◌≡◌, ◌⊎◌, Bool, true, false, List, [], ◌∷◌, map, Option, Some, None}
use Rattle.world.specs.StoreCalls.{StoreCall, ListedAsides}
use Rattle.device_calls.specs.Calls.{Call, Store}
use Rattle.device_calls.specs.Programs.{Makes}
use Rattle.lease_file.specs.declared.clearing.Clearing.{Clearing}
use Rattle.lease_file.specs.declared.faults.SaveStep.{SaveStep}
use Rattle.lease_file.specs.AsideCalls.{SettlesIfAny, cleared_calls}
use Rattle.lease_file.specs.Saving.{save_calls, save_calls_to, IsOfSaving, remove_calls, remove_calls_to, IsOfRemoving}
use Rattle.turn_model.specs.KeptFiles.{bringing}
use Rattle.turn_model.specs.Opening.{clearing}

-- What the loop asks to bring a file to what it is to hold: these calls where all are done, and those up to one of
-- these steps where it isn't. No other calls are made so.
pub record AsksFor (name : List ℕ) (wanted : Option (List ℕ)) (all : List StoreCall) (IsStep : SaveStep → Type 0)
    (up_to : SaveStep → List StoreCall) : Type 0 where
  pub done : Makes (bringing name wanted) (map Store all) true
  pub failed : (step : SaveStep) → IsStep step → Makes (bringing name wanted) (map Store (up_to step)) false
  pub alone : (calls : List Call) (result : Bool) → Makes (bringing name wanted) calls result
      → (calls ≡ map Store all) ⊎ ((step : SaveStep) × IsStep step × (calls ≡ map Store (up_to step)))

abbrev pub SavesAlike : Type 0
SavesAlike =
    (name bytes : List ℕ)
    → AsksFor name (Some bytes) (save_calls name bytes) IsOfSaving (save_calls_to name bytes)

abbrev pub RemovesAlike : Type 0
RemovesAlike = (name : List ℕ) → AsksFor name None (remove_calls name) IsOfRemoving (remove_calls_to name)

-- asides are cleared by the same calls, and where the listing failed by that call alone
pub record ClearsAlike : Type 0 where
  pub listed : (cleared : Clearing) → SettlesIfAny cleared.removed.items cleared.settled
      → Makes clearing (map Store (cleared_calls cleared)) tt
  pub unlisted : Makes clearing (Store (ListedAsides None) ∷ []) tt
