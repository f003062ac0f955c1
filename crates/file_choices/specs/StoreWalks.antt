-- What a store tells after calls that were answered so, one after another.
use Rattle.std.specs.Prelude.{◌≡◌, ◌⊎◌, ◌+◌, true, false, not, List, [], ◌∷◌, length, Option, Some, None, is_some, if◌then◌else◌}
use Rattle.world.specs.FileLists.{StoreFile, file_at, asides}
use Rattle.world.specs.StoreFails.{StoreFails, fails_at}
use Rattle.world.specs.StoreCalls.{StoreCall, ListedAsides, ReadFile, WroteAside, SyncedAside, RenamedAside, RemovedFile, SettledFiles, Unread, reading_of, StoreTold, store_answered, files_by, fails_rename}
use Rattle.world.specs.SoundStores.{LeavesFiles, was_done}

-- Where it is told which calls fail, a call that failed left the files as they were.
abbrev pub LeavesAsTold : Option StoreFails → StoreCall → List StoreFile → List StoreFile → Type 0
LeavesAsTold None call old new = LeavesFiles call old new
LeavesAsTold (Some fails) call old new = new ≡ (if was_done call then files_by call old else old)

-- Where it is told which calls fail, this call was done exactly where it isn't one of those.
abbrev pub IsDoneAsTold : Option StoreFails → StoreCall → StoreTold → Type 0
IsDoneAsTold None call told = Unit {0}
IsDoneAsTold (Some fails) (WroteAside name bytes done) told = fails_at fails (length told.calls + 1) ≡ not done
IsDoneAsTold (Some fails) (SyncedAside name done) told = fails_at fails (length told.calls + 1) ≡ not done
IsDoneAsTold (Some fails) (RenamedAside name done) told = fails_rename name told fails ≡ not done
IsDoneAsTold (Some fails) (RemovedFile name done) told = fails_at fails (length told.calls + 1) ≡ not done
IsDoneAsTold (Some fails) (SettledFiles done) told = fails_at fails (length told.calls + 1) ≡ not done
IsDoneAsTold (Some fails) (ListedAsides names) told = fails_at fails (length told.calls + 1) ≡ not (is_some names)
IsDoneAsTold (Some fails) (ReadFile name Unread) told = fails_at fails (length told.calls + 1) ≡ true
IsDoneAsTold (Some fails) (ReadFile name reading) told = fails_at fails (length told.calls + 1) ≡ false

-- A listing that didn't fail names all asides, and no other file; a reading that didn't fail gives the file as it
-- stands.
abbrev pub IsTrueOf : StoreCall → StoreTold → Type 0
IsTrueOf (ListedAsides None) told = Unit {0}
IsTrueOf (ListedAsides (Some names)) told = names ≡ asides told.files
IsTrueOf (ReadFile name reading) told = (reading ≡ Unread) ⊎ (reading ≡ reading_of (file_at name told.files))
IsTrueOf (WroteAside name bytes done) told = Unit {0}
IsTrueOf (SyncedAside name done) told = Unit {0}
IsTrueOf (RenamedAside name done) told = Unit {0}
IsTrueOf (RemovedFile name done) told = Unit {0}
IsTrueOf (SettledFiles done) told = Unit {0}

-- how a call was answered, and the files that it left
pub record IsAnswered (failing : Option StoreFails) (call : StoreCall) (told : StoreTold)
    (files : List StoreFile) : Type 0 where
  pub done : IsDoneAsTold failing call told
  pub truly : IsTrueOf call told
  pub leaves : LeavesAsTold failing call told.files files

abbrev pub Goes : Option StoreFails → List StoreCall → StoreTold → StoreTold → Type 0
Goes failing [] old new = new ≡ old
Goes failing (call ∷ calls) old new =
    (files : List StoreFile) × IsAnswered failing call old files
    × Goes failing calls (store_answered call files old) new

abbrev pub Answered : Option StoreFails → List StoreCall → Option StoreTold → Option StoreTold → Type 0
Answered failing calls None new = new ≡ None
Answered failing calls (Some old) new = (told : StoreTold) × (new ≡ Some told) × Goes failing calls old told
