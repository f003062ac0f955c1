-- What holds at each moment of what a store tells: its files stand in order, and both what they read as and what
-- undoing makes of them is one of the images that a crash may leave.
use Rattle.std.specs.Prelude.{ℕ, ◌≡◌, ◌⊎◌, Bool, true, false, List, Option}
use Rattle.world.specs.NamedLists.{named, InNameOrder}
use Rattle.world.specs.FileLists.{StoreFile, file_name, file_at}
use Rattle.world.specs.CrashImages.{ChangedFile, changed_file, unchanged, MayBe}
use Rattle.world.specs.Undoing.{UndoneFile, undone_name, undone_at, undone, is_emptied}
use Rattle.world.specs.StoreCalls.{StoreCall, WroteAside, RenamedAside, RemovedFile, StoreTold, store_answered, files_by, FailedFiles}
use Rattle.world.specs.DiskChanges.{settled}

-- whether undoing empties the file
abbrev pub emptied_at : List ℕ → List UndoneFile → Bool
emptied_at name files = named undone_name (λ file. is_emptied file.undo) false name files

-- what is known of one file, which reads so, and so where all is undone
pub record IsKnown (file : ChangedFile) (reads before : Option (List ℕ)) (emptied : Bool) : Type 0 where
  pub reads_so : MayBe file reads
  pub undone_so : MayBe file before
  pub emptied_so : emptied ≡ true → file.unsynced ≡ true
  pub torn_so : file.unsynced ≡ true → file.torn ≡ true

abbrev pub KnowsFile : StoreTold → List ℕ → Type 0
KnowsFile told name =
    let reads = file_at name told.files in
    IsKnown (changed_file name reads told.disk) reads (undone_at name reads told.undo) (emptied_at name told.undo)

pub record IsSound (told : StoreTold) : Type 0 where
  pub files_in_order : InNameOrder file_name told.files
  pub undo_in_order : InNameOrder undone_name told.undo
  pub knows : (name : List ℕ) → KnowsFile told name

abbrev pub was_done : StoreCall → Bool
was_done (WroteAside name bytes done) = done
was_done (RenamedAside name done) = done
was_done (RemovedFile name done) = done
was_done call = true

-- A call left the files as it makes them; one that failed may have left others.
abbrev pub LeavesFiles : StoreCall → (old new : List StoreFile) → Type 0
LeavesFiles call old new = (new ≡ files_by call old) ⊎ ((was_done call ≡ false) × FailedFiles call old new)

-- the files as a store reads them, and as they are where all is undone
abbrev pub reads_of : StoreTold → List ℕ → Option (List ℕ)
reads_of told name = file_at name told.files

abbrev pub undone_of : StoreTold → List ℕ → Option (List ℕ)
undone_of told name = file_at name (undone told.undo told.files)

-- What is told is sound after each call, where it was before.
abbrev pub StaysSound : Type 0
StaysSound =
    (told : StoreTold) (call : StoreCall) (files : List StoreFile) → IsSound told → LeavesFiles call told.files files
    → IsSound (store_answered call files told)

-- A settling leaves of a file that was synced what it reads as, and nothing else.
abbrev pub SettlesForGood : Type 0
SettlesForGood =
    (told : StoreTold) (name : List ℕ) → (changed_file name (reads_of told name) told.disk).unsynced ≡ false
    → changed_file name (reads_of told name) (settled told.disk) ≡ unchanged name (reads_of told name)
