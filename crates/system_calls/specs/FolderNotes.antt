-- What is told of a folder's store: its calls are noted as they begin and as they are answered.
use Rattle.std.specs.Prelude.{ℕ, Bool, true, false, List, Option, None, Some, option_map}
use Rattle.world.specs.FileLists.{StoreFile, file_at, asides}
use Rattle.world.specs.StoreCalls as Store
use Rattle.world.specs.StoreCalls.{StoreCall, StoreTold, Reading, store_answered, reading_of}
use Rattle.system_calls.specs.DiskFiles.{FolderHeld}
use Rattle.system_calls.specs.declared.notes.Note.{Note}
use Rattle.system_calls.specs.declared.notes.Note.TheVariants.{Begins, ListedAsides, ReadFile, WroteAside, SyncedAside, RenamedAside, RemovedFile, SettledFiles}

-- what the folder's store tells: the files as they read now
abbrev pub told_of : FolderHeld → StoreTold
told_of held =
    record { files = held.files; calls = held.told.calls; disk = held.told.disk; undo = held.told.undo }

-- a call of the store begins
abbrev pub begun : FolderHeld → FolderHeld
begun held = record { files = held.files; handle = held.handle; told = told_of held }

-- A call of the store was answered. What a crash may leave follows from the files as they were when it began.
abbrev pub answered : StoreCall → FolderHeld → FolderHeld
answered call held =
    record { files = held.files; handle = held.handle; told = store_answered call held.files held.told }

-- what a listing and a reading gave, where they were done
abbrev pub listed : Bool → List StoreFile → Option (List (List ℕ))
listed true files = Some (asides files)
listed false files = None

abbrev pub read : Bool → Option (List ℕ) → Reading
read true bytes = reading_of bytes
read false bytes = Store.Unread

-- what a note makes of what is told; it changes no file
abbrev pub noted : Note → FolderHeld → FolderHeld
noted Begins held = begun held
noted (ListedAsides done) held = answered (Store.ListedAsides (listed done held.files)) held
noted (ReadFile name done) held = answered (Store.ReadFile name.now (read done (file_at name.now held.files))) held
noted (WroteAside name bytes done) held = answered (Store.WroteAside name.now bytes.now done) held
noted (SyncedAside name done) held = answered (Store.SyncedAside name.now done) held
noted (RenamedAside name done) held = answered (Store.RenamedAside name.now done) held
noted (RemovedFile name done) held = answered (Store.RemovedFile name.now done) held
noted (SettledFiles done) held = answered (Store.SettledFiles done) held

-- what the store over the folder `dir` tells, by what its disk holds
abbrev pub store_told : (held : List ℕ → Option FolderHeld) → (dir : List ℕ) → Option StoreTold
store_told held dir = option_map told_of (held dir)
