-- Saving and removing a file: which calls are made.
use Rattle.std.specs.Prelude.{ℕ, ◌<◌, true, false, List, [], ◌∷◌, length, take, Option, Result, Ok, Err}
use Rattle.world.specs.StoreFails.{StoreFails}
use Rattle.world.specs.StoreCalls.{StoreCall, StoreTold, WroteAside, SyncedAside, RenamedAside, RemovedFile, SettledFiles}
use Rattle.file_choices.specs.StoreWalks.{Answered}
use Rattle.lease_file.specs.declared.faults.SaveStep.{SaveStep}
use Rattle.lease_file.specs.declared.faults.SaveStep.TheVariants as step
use Rattle.lease_file.specs.declared.faults.SaveFault.{SaveFault}
use Rattle.lease_file.specs.declared.faults.SaveFault.TheVariants.{Failed, NoMemory}

-- the new bytes are written aside and synced, and then they are put in the file's place
abbrev pub save_calls : (name bytes : List ℕ) → List StoreCall
save_calls name bytes =
    WroteAside name bytes true ∷ SyncedAside name true ∷ RenamedAside name true ∷ SettledFiles true ∷ []

-- the calls up to the one that failed
abbrev pub save_calls_to : (name bytes : List ℕ) → (failed : SaveStep) → List StoreCall
save_calls_to name bytes step.Write = WroteAside name bytes false ∷ []
save_calls_to name bytes step.Sync = WroteAside name bytes true ∷ SyncedAside name false ∷ []
save_calls_to name bytes step.Rename = WroteAside name bytes true ∷ SyncedAside name true ∷ RenamedAside name false ∷ []
save_calls_to name bytes step.Settle =
    WroteAside name bytes true ∷ SyncedAside name true ∷ RenamedAside name true ∷ SettledFiles false ∷ []
save_calls_to name bytes step.List = []
save_calls_to name bytes step.Remove = []

abbrev pub IsOfSaving : SaveStep → Type 0
IsOfSaving step.Write = Unit {0}
IsOfSaving step.Sync = Unit {0}
IsOfSaving step.Rename = Unit {0}
IsOfSaving step.Settle = Unit {0}
IsOfSaving step.List = ⊥
IsOfSaving step.Remove = ⊥

-- All calls were made, or those up to the one that failed. Where memory ran out, some of the first were.
abbrev pub Saves : {T : Type 0} → Option StoreFails → (name bytes : List ℕ) → Option StoreTold → Option StoreTold
    → Result T SaveFault → Type 0
Saves failing name bytes old new (Ok x) = Answered failing (save_calls name bytes) old new
Saves failing name bytes old new (Err (Failed failed)) =
    IsOfSaving failed × Answered failing (save_calls_to name bytes failed) old new
Saves failing name bytes old new (Err NoMemory) =
    (made : ℕ) × (made < length (save_calls name bytes)) × Answered failing (take made (save_calls name bytes)) old new

abbrev pub remove_calls : (name : List ℕ) → List StoreCall
remove_calls name = RemovedFile name true ∷ SettledFiles true ∷ []

abbrev pub remove_calls_to : (name : List ℕ) → (failed : SaveStep) → List StoreCall
remove_calls_to name step.Remove = RemovedFile name false ∷ []
remove_calls_to name step.Settle = RemovedFile name true ∷ SettledFiles false ∷ []
remove_calls_to name step.Write = []
remove_calls_to name step.Sync = []
remove_calls_to name step.Rename = []
remove_calls_to name step.List = []

abbrev pub IsOfRemoving : SaveStep → Type 0
IsOfRemoving step.Remove = Unit {0}
IsOfRemoving step.Settle = Unit {0}
IsOfRemoving step.Write = ⊥
IsOfRemoving step.Sync = ⊥
IsOfRemoving step.Rename = ⊥
IsOfRemoving step.List = ⊥

abbrev pub Removes : {T : Type 0} → Option StoreFails → (name : List ℕ) → Option StoreTold → Option StoreTold
    → Result T SaveFault → Type 0
Removes failing name old new (Ok x) = Answered failing (remove_calls name) old new
Removes failing name old new (Err (Failed failed)) =
    IsOfRemoving failed × Answered failing (remove_calls_to name failed) old new
Removes failing name old new (Err NoMemory) =
    (made : ℕ) × (made < length (remove_calls name)) × Answered failing (take made (remove_calls name)) old new
