-- What a store that tells what it holds makes of each call.
use Rattle.std.specs.Prelude.{ℕ, Bool, true, false, not, ◌||◌, ◌≡◌, ◌+◌, ◌⊎◌, List, [], ◌∷◌, ◌++◌, length, All, Option, Some, None, is_some, option_map, Result, Ok, Err, String}
use Rattle.std.specs.Global.{Global}
use Rattle.std.specs.String.{string_bytes}
use Rattle.world.specs.declared.faults.DeviceAnswer.{DeviceAnswer}
use Rattle.world.specs.declared.faults.DeviceAnswer.TheVariants as Answer
use Rattle.world.specs.Causes.{FailsAsTold}
use Rattle.world.specs.StoreFails.{StoreFails, fails_at}
use Rattle.world.specs.FileNames.{IsFileName, aside_of}
use Rattle.world.specs.FileLists.{StoreFile, file_at, put_file, drop_file, asides, rename_file}
use Rattle.world.specs.CrashImages.{ChangedFile}
use Rattle.world.specs.Undoing.{UndoneFile, Empties, put_undo, undo_synced, undo_renamed, restoring, undo_settled}
use Rattle.world.specs.DiskChanges.{written, synced, renamed, removed, settled}

-- what reading a file gave
pub data Reading : Type 0 where
  Found : (bytes : List ℕ) → Reading
  Missing : Reading
  Unread : Reading

-- a call with its answer; the last argument tells whether it was done
pub data StoreCall : Type 0 where
  ListedAsides : (names : Option (List (List ℕ))) → StoreCall
  ReadFile : (name : List ℕ) → (reading : Reading) → StoreCall
  WroteAside : (name bytes : List ℕ) → (done : Bool) → StoreCall
  SyncedAside : (name : List ℕ) → (done : Bool) → StoreCall
  RenamedAside : (name : List ℕ) → (done : Bool) → StoreCall
  RemovedFile : (name : List ℕ) → (done : Bool) → StoreCall
  SettledFiles : (done : Bool) → StoreCall

pub record StoreTold : Type 0 where
  -- the files as they read, in byte order of their names
  pub files : List StoreFile
  -- the calls answered so far, those of earlier lives included
  pub calls : List StoreCall
  -- the files of which a crash may leave something else
  pub disk : List ChangedFile
  -- what a crash that undoes all that isn't settled makes of the files
  pub undo : List UndoneFile

-- what a crash may leave after a call that was answered over these files; one that failed was done or not done
abbrev pub disk_after : StoreCall → List StoreFile → List ChangedFile → List ChangedFile
disk_after (ListedAsides names) files disk = disk
disk_after (ReadFile name reading) files disk = disk
disk_after (WroteAside name bytes done) files disk = written (aside_of name) bytes (file_at (aside_of name) files) disk
disk_after (SyncedAside name true) files disk = synced (aside_of name) (file_at (aside_of name) files) disk
disk_after (SyncedAside name false) files disk = disk
disk_after (RenamedAside name done) files disk =
    renamed name done (file_at name files) (file_at (aside_of name) files) disk
disk_after (RemovedFile name done) files disk = removed name done (file_at name files) disk
disk_after (SettledFiles true) files disk = settled disk
disk_after (SettledFiles false) files disk = disk

-- what undoing gives after a call that was answered over these files; one that failed changes nothing of it
abbrev pub undo_after : StoreCall → List StoreFile → List UndoneFile → List UndoneFile
undo_after (WroteAside name bytes true) files undo = put_undo (aside_of name) Empties undo
undo_after (SyncedAside name true) files undo = undo_synced (aside_of name) (file_at (aside_of name) files) undo
undo_after (RenamedAside name true) files undo =
    undo_renamed name (file_at name files) (file_at (aside_of name) files) undo
undo_after (RemovedFile name true) files undo = restoring name (file_at name files) undo
undo_after (SettledFiles true) files undo = undo_settled undo
undo_after call files undo = undo

abbrev pub store_answered : StoreCall → List StoreFile → StoreTold → StoreTold
store_answered call files told = record {
  files = files;
  calls = told.calls ++ call ∷ [];
  disk = disk_after call told.files told.disk;
  undo = undo_after call told.files told.undo;
}

-- a store that holds these files, of which nothing is unsettled, before its first call
abbrev pub store_holding : List StoreFile → StoreTold
store_holding files = record { files = files; calls = []; disk = []; undo = [] }

-- the number of the next call, from 1
abbrev pub store_number : Option StoreTold → ℕ
store_number None = 0
store_number (Some told) = length told.calls + 1

-- what a call makes of the files where it is done
abbrev pub files_by : StoreCall → List StoreFile → List StoreFile
files_by (WroteAside name bytes done) files = put_file (record { name = aside_of name; bytes = bytes }) files
files_by (RenamedAside name done) files = rename_file name (file_at (aside_of name) files) files
files_by (RemovedFile name done) files = drop_file name files
files_by call files = files

-- What a failed call may leave of the files: as they were, or as it makes them where it is done. A failed writing may
-- leave any bytes in its aside: open() with O_TRUNC empties it, and write() may have written some of the bytes, but not
-- all, when the next write() fails (IEEE Std 1003.1).
abbrev pub FailedFiles : StoreCall → (old new : List StoreFile) → Type 0
FailedFiles (WroteAside name bytes done) old new =
    (new ≡ old) ⊎ ((left : List ℕ) × (new ≡ put_file (record { name = aside_of name; bytes = left }) old))
FailedFiles call old new = (new ≡ old) ⊎ (new ≡ files_by call old)

-- Where it is told which calls fail, a failed call left the files as they were.
abbrev pub FailedWrite : Option StoreFails → StoreCall → StoreTold → Option StoreTold → Type 0
FailedWrite None call told new =
    (files : List StoreFile) × FailedFiles call told.files files × (new ≡ Some (store_answered call files told))
FailedWrite (Some failing) call told new = new ≡ Some (store_answered call told.files told)

-- a call that is to change the files
abbrev pub ChangesFiles : {T : Type 0} → Option StoreFails → (Bool → StoreCall) → Option StoreTold → Option StoreTold
    → Result T DeviceAnswer → Type 0
ChangesFiles failing call None new result = new ≡ None
ChangesFiles failing call (Some told) new (Ok x) =
    new ≡ Some (store_answered (call true) (files_by (call true) told.files) told)
ChangesFiles failing call (Some told) new (Err Answer.Failed) = FailedWrite failing (call false) told new
ChangesFiles failing call (Some told) new (Err Answer.NoMemory) = new ≡ Some told

-- the names of the asides, appended in byte order
abbrev pub ListsAsides : {T : Type 0} → Option StoreTold → Option StoreTold → List (List ℕ) → List (List ℕ)
    → Result T DeviceAnswer → Type 0
ListsAsides None told_new old new (Ok x) = told_new ≡ None
ListsAsides (Some told) told_new old new (Ok x) =
    (new ≡ old ++ asides told.files)
    × (told_new ≡ Some (store_answered (ListedAsides (Some (asides told.files))) told.files told))
ListsAsides None told_new old new (Err answer) = told_new ≡ None
ListsAsides (Some told) told_new old new (Err Answer.Failed) =
    told_new ≡ Some (store_answered (ListedAsides None) told.files told)
ListsAsides (Some told) told_new old new (Err Answer.NoMemory) = told_new ≡ Some told

abbrev pub reading_of : Option (List ℕ) → Reading
reading_of None = Missing
reading_of (Some bytes) = Found bytes

-- what was read of a file, and is appended
abbrev pub Appended : Option (List ℕ) → List ℕ → List ℕ → Bool → Type 0
Appended None old new found = (found ≡ false) × (new ≡ old)
Appended (Some bytes) old new found = (found ≡ true) × (new ≡ old ++ bytes)

abbrev pub ReadsFile : List ℕ → Option StoreTold → Option StoreTold → List ℕ → List ℕ → Result Bool DeviceAnswer
    → Type 0
ReadsFile name None told_new old new result = told_new ≡ None
ReadsFile name (Some told) told_new old new (Ok found) =
    Appended (file_at name told.files) old new found
    × (told_new ≡ Some (store_answered (ReadFile name (reading_of (file_at name told.files))) told.files told))
ReadsFile name (Some told) told_new old new (Err Answer.Failed) =
    told_new ≡ Some (store_answered (ReadFile name Unread) told.files told)
ReadsFile name (Some told) told_new old new (Err Answer.NoMemory) = told_new ≡ Some told

-- where there is no aside, renaming it fails
abbrev pub FindsAside : {T : Type 0} → List ℕ → Option StoreTold → Result T DeviceAnswer → Type 0
FindsAside name None result = Unit {0}
FindsAside name (Some told) (Ok x) = is_some (file_at (aside_of name) told.files) ≡ true
FindsAside name (Some told) (Err answer) = Unit {0}

-- where it is told which calls fail, renaming fails at these calls and where there is no aside, and nowhere else
abbrev pub fails_rename : List ℕ → StoreTold → StoreFails → Bool
fails_rename name told fails =
    fails_at fails (length told.calls + 1) || not (is_some (file_at (aside_of name) told.files))

abbrev pub RenameForetold : {T : Type 0} → Option StoreFails → List ℕ → Option StoreTold → Result T DeviceAnswer
    → Type 0
RenameForetold failing name None result = Unit {0}
RenameForetold failing name (Some told) result = FailsAsTold (option_map (fails_rename name told) failing) result

abbrev pub WritesAside : {T : Type 0} → Option StoreFails → List ℕ → List ℕ → Option StoreTold → Option StoreTold
    → Result T DeviceAnswer → Type 0
WritesAside failing name bytes = ChangesFiles failing (WroteAside name bytes)

abbrev pub SyncsAside : {T : Type 0} → Option StoreFails → List ℕ → Option StoreTold → Option StoreTold
    → Result T DeviceAnswer → Type 0
SyncsAside failing name = ChangesFiles failing (SyncedAside name)

abbrev pub RenamesAside : {T : Type 0} → Option StoreFails → List ℕ → Option StoreTold → Option StoreTold
    → Result T DeviceAnswer → Type 0
RenamesAside failing name = ChangesFiles failing (RenamedAside name)

abbrev pub RemovesFile : {T : Type 0} → Option StoreFails → List ℕ → Option StoreTold → Option StoreTold
    → Result T DeviceAnswer → Type 0
RemovesFile failing name = ChangesFiles failing (RemovedFile name)

abbrev pub Settles : {T : Type 0} → Option StoreFails → Option StoreTold → Option StoreTold → Result T DeviceAnswer
    → Type 0
Settles failing = ChangesFiles failing SettledFiles

-- names are appended, or none on a refusal; they are names of files
abbrev pub AppendsNames : {T E : Type 0} → List (String Global) → List (String Global) → Result T E → Type 0
AppendsNames old new (Ok x) =
    (names : List (String Global)) × (new ≡ old ++ names) × All (λ name. IsFileName (string_bytes name)) names
AppendsNames old new (Err e) = new ≡ old
