-- What a store in memory holds, and what its record of calls tells.
use Rattle.std.specs.Prelude.{ℕ, Bool, true, false, not, ◌≡◌, List, [], ◌∷◌, length, map, fold, All, Some, None, is_some, String}
use Rattle.std.specs.Global.{Global, Vec}
use Rattle.std.specs.String.{string_bytes}
use Rattle.world.specs.FileNames.{IsFileName, aside_of}
use Rattle.world.specs.FileLists.{StoreFile, asides, file_at, put_file, drop_file, rename_file}
use Rattle.world.specs.StoreFails.{StoreFails}
use Rattle.world.specs.StoreCalls.{Found, Missing, Unread, StoreCall, ListedAsides, ReadFile, WroteAside, SyncedAside, RenamedAside, RemovedFile, SettledFiles, StoreTold, store_answered, store_holding, reading_of}
use Rattle.store_mem.specs.declared.stores.MemFile.{MemFile}
use Rattle.store_mem.specs.declared.stores.StoreEntry.{StoreEntry}
use Rattle.store_mem.specs.declared.stores.StoreEntry.TheVariants.{List as Lists, Read, Write, Sync, Rename, Remove, Settle, Crash}
use Rattle.store_mem.specs.CrashRecord.{after_crash}

pub record StoreState : Type 0 where
  -- the files and the calls so far
  pub told : StoreTold
  -- which calls fail
  pub failing : StoreFails

abbrev pub file_of : MemFile → StoreFile
file_of file = record { name = string_bytes file.name; bytes = file.bytes.items }

-- files in byte order of their names, put in one after another; of one name the last stays
abbrev pub put_files : List StoreFile → List StoreFile → List StoreFile
put_files sorted [] = sorted
put_files sorted (file ∷ files) = put_files (put_file file sorted) files

abbrev pub in_name_order : List StoreFile → List StoreFile
in_name_order files = put_files [] files

-- The aside of this name, where there is one, takes the place of the file.
abbrev pub Renames : (name : List ℕ) → (old new : List StoreFile) → (there : Bool) → Type 0
Renames name old new there =
    let aside = file_at (aside_of name) old in (there ≡ is_some aside) × (new ≡ rename_file name aside old)

-- a call that changes the files where it was done
abbrev pub changed : Bool → StoreCall → (List StoreFile → List StoreFile) → StoreTold → StoreTold
changed true call change told = store_answered call (change told.files) told
changed false call change told = store_answered call told.files told

-- what is told after one more call
abbrev pub store_step : StoreTold → StoreEntry → StoreTold
store_step told (Lists true) = store_answered (ListedAsides (Some (asides told.files))) told.files told
store_step told (Lists false) = store_answered (ListedAsides None) told.files told
store_step told (Read name true) = store_answered (ReadFile name (reading_of (file_at name told.files))) told.files told
store_step told (Read name false) = store_answered (ReadFile name Unread) told.files told
store_step told (Write name bytes done) =
    changed done (WroteAside name bytes.items done)
    (put_file (record { name = aside_of name; bytes = bytes.items })) told
store_step told (Sync name done) = changed done (SyncedAside name done) (λ files. files) told
store_step told (Rename name done) =
    changed done (RenamedAside name done) (λ files. rename_file name (file_at (aside_of name) files) files) told
store_step told (Remove name done) = changed done (RemovedFile name done) (drop_file name) told
store_step told (Settle done) = changed done (SettledFiles done) (λ files. files) told
store_step told (Crash pick) = after_crash pick told

-- what is told before the first call
abbrev pub store_start : List MemFile → StoreTold
store_start files = store_holding (in_name_order (map file_of files))

-- what is told of a store that held these files first after the calls of a record
abbrev pub told_after : List MemFile → List StoreEntry → StoreTold
told_after first entries = fold store_step (store_start first) entries

abbrev pub store_failed : StoreCall → Bool
store_failed (ListedAsides (Some names)) = false
store_failed (ListedAsides None) = true
store_failed (ReadFile name (Found bytes)) = false
store_failed (ReadFile name Missing) = false
store_failed (ReadFile name Unread) = true
store_failed (WroteAside name bytes done) = not done
store_failed (SyncedAside name done) = not done
store_failed (RenamedAside name done) = not done
store_failed (RemovedFile name done) = not done
store_failed (SettledFiles done) = not done

-- an entry of the map that holds the files
abbrev pub entry_file : String Global × Vec ℕ → StoreFile
entry_file entry = record { name = string_bytes entry.0; bytes = entry.1.items }

-- what is held is what is told, under names of files, and the calls are counted
pub record HoldsFiles (told : StoreTold) (held : List (String Global × Vec ℕ)) (answered : ℕ) : Type 0 where
  pub files : told.files ≡ map entry_file held
  pub names : All (λ file. IsFileName file.name) told.files
  pub counted : length told.calls ≡ answered

-- the name in an entry is that of a file
abbrev pub IsNamedEntry : StoreEntry → Type 0
IsNamedEntry (Lists done) = Unit {0}
IsNamedEntry (Read name done) = IsFileName name
IsNamedEntry (Write name bytes done) = IsFileName name
IsNamedEntry (Sync name done) = IsFileName name
IsNamedEntry (Rename name done) = IsFileName name
IsNamedEntry (Remove name done) = IsFileName name
IsNamedEntry (Settle done) = Unit {0}
IsNamedEntry (Crash pick) = Unit {0}

-- what undoing changes has names of files
abbrev pub UndoesNamed : StoreTold → Type 0
UndoesNamed told = All (λ file. IsFileName file.name) told.undo

-- these files have names of files where those that are told have
abbrev pub KeepsNames : StoreTold → List StoreFile → Type 0
KeepsNames told files = All (λ file. IsFileName file.name) told.files → All (λ file. IsFileName file.name) files
