-- What the store over a folder makes of the folder's files, in the system's calls of one call of the store.
use Rattle.std.specs.Prelude.{ℕ, Bool, true, false, ◌≡◌, ◌⊎◌, List, ◌++◌, filter, Option, None, Some, Result, Ok, Err}
use Rattle.std.specs.declared.io.ErrorKind.{ErrorKind}
use Rattle.world.specs.declared.faults.DeviceAnswer.{DeviceAnswer}
use Rattle.world.specs.FileNames.{IsFileName}
use Rattle.world.specs.FileLists.{StoreFile, file_name, file_at, put_file, drop_file, asides}
use Rattle.world.specs.NamedLists.{InNameOrder}
use Rattle.world.specs.StoreCalls.{Appended}
use Rattle.system_calls.specs.DiskFiles.{ToRead, ToWrite, ToList, FolderHeld, LeavesAny, AreAll}
use Rattle.folder_store.specs.FolderCalls.{is_aside_name}
use Rattle.system_calls.specs.Paths.{file_path}

-- The files change so, and nothing is noted.
abbrev pub Changes : (by : (old new : List StoreFile) → Type 0) → (old new : Option FolderHeld) → Type 0
Changes by None new = new ≡ None
Changes by (Some old) new =
    (it : FolderHeld) × by old.files it.files × (it.told ≡ old.told) × (new ≡ Some it)

abbrev pub AsBefore : (old new : List StoreFile) → Type 0
AsBefore old new = new ≡ old

-- In no folder a file changes.
abbrev pub KeepsFiles : (old new : List ℕ → Option FolderHeld) → Type 0
KeepsFiles old new = (dir : List ℕ) → Changes AsBefore (old dir) (new dir)

-- The file at a path changes so, if it is one of the store's in some folder.
abbrev pub ChangesAt : (path : List ℕ) → (by : (name : List ℕ) → (old new : List StoreFile) → Type 0)
    → (old new : List ℕ → Option FolderHeld) → Type 0
ChangesAt path by old new =
    (dir name : List ℕ) → IsFileName name → path ≡ file_path dir name → Changes (by name) (old dir) (new dir)

-- A file has these bytes, or any where that failed.
abbrev pub IsWritten : (bytes : List ℕ) → Option ErrorKind → (name : List ℕ) → (old new : List StoreFile) → Type 0
IsWritten bytes None name old new = new ≡ put_file (record { name = name; bytes = bytes }) old
IsWritten bytes (Some failure) name old new = LeavesAny name old new

-- A file is no more, or maybe still there where that failed.
abbrev pub IsRemoved : Option ErrorKind → (name : List ℕ) → (old new : List StoreFile) → Type 0
IsRemoved None name old new = new ≡ drop_file name old
IsRemoved (Some failure) name old new = (new ≡ old) ⊎ (new ≡ drop_file name old)

-- A file is being written: it has these bytes, and is open for more.
abbrev pub IsWriting : (old : Option FolderHeld) → (name bytes : List ℕ) → (now : Option FolderHeld) → Type 0
IsWriting None name bytes now = now ≡ None
IsWriting (Some old) name bytes now =
    (it : FolderHeld) × (it.files ≡ put_file (record { name = name; bytes = bytes }) old.files)
    × (it.handle ≡ ToWrite name bytes) × (it.told ≡ old.told) × (now ≡ Some it)

-- More was written, or the file may have any bytes where that failed.
abbrev pub EndsWriting : (old : Option FolderHeld) → (name bytes : List ℕ) → Option ErrorKind
    → (new : Option FolderHeld) → Type 0
EndsWriting old name bytes None new = IsWriting old name bytes new
EndsWriting old name bytes (Some failure) new = Changes (LeavesAny name) old new

-- These bytes are written behind what was written since some moment.
abbrev pub WritesBehind : (bytes : List ℕ) → Option ErrorKind → (old new : List ℕ → Option FolderHeld) → Type 0
WritesBehind bytes failure old new =
    (dir name before : List ℕ) (since : Option FolderHeld) → IsWriting since name before (old dir)
    → EndsWriting since name (before ++ bytes) failure (new dir)

-- A file is open, of which these bytes are still to be read; or a folder is.
abbrev pub HasToRead : (rest : Option (List ℕ)) → Option FolderHeld → Type 0
HasToRead rest None = ⊥
HasToRead rest (Some held) = held.handle ≡ ToRead rest

-- What was still to be read is appended. It isn't that of a folder.
abbrev pub AppendsRest : (old : List ℕ → Option FolderHeld) → (before after : List ℕ) → Type 0
AppendsRest old before after =
    (dir : List ℕ) (rest : Option (List ℕ)) → HasToRead rest (old dir) → Appended rest before after true

-- It is, where a file was read.
abbrev pub ReadsRest : (old : List ℕ → Option FolderHeld) → (before after : List ℕ) → Result Bool DeviceAnswer → Type 0
ReadsRest old before after (Ok found) = (found ≡ true) × AppendsRest old before after
ReadsRest old before after (Err answer) = Unit {0}

-- What a file has is appended, where there is one.
abbrev pub IsRead : (before after : List ℕ) → Result Bool DeviceAnswer → (name : List ℕ) → (old new : List StoreFile)
    → Type 0
IsRead before after (Ok found) name old new = (new ≡ old) × Appended (file_at name old) before after found
IsRead before after (Err answer) name old new = new ≡ old

-- The folder is being listed, and gave these names so far.
abbrev pub HasListed : (names : List (List ℕ)) → Option FolderHeld → Type 0
HasListed names None = ⊥
HasListed names (Some held) = held.handle ≡ ToList names

-- These are all names of the folder.
abbrev pub HasAll : (names : List (List ℕ)) → Option FolderHeld → Type 0
HasAll names None = ⊥
HasAll names (Some held) = AreAll names held.files

-- further names of the folder, and the asides among them
pub record ListsMore (is_so : (names : List (List ℕ)) → Type 0) (names : List (List ℕ))
    (before after : List (List ℕ)) : Type 0 where
  pub more : List (List ℕ)
  pub appended : after ≡ before ++ filter is_aside_name more
  pub listed : is_so (names ++ more)

-- one more name, or the end
abbrev pub ListsOneMore : (old new : List ℕ → Option FolderHeld) → (before after : List (List ℕ))
    → Result Bool DeviceAnswer → Type 0
ListsOneMore old new before after (Ok true) =
    (dir : List ℕ) (names : List (List ℕ)) → HasListed names (old dir)
    → ListsMore (λ all. HasListed all (new dir)) names before after
ListsOneMore old new before after (Ok false) =
    (dir : List ℕ) (names : List (List ℕ)) → HasListed names (old dir) → HasAll names (old dir)
ListsOneMore old new before after (Err answer) = Unit {0}

-- The names of the asides among those that were still to be listed are appended.
abbrev pub AppendsRestOfNames : (old : List ℕ → Option FolderHeld) → (before after : List (List ℕ)) → Type 0
AppendsRestOfNames old before after =
    (dir : List ℕ) (names : List (List ℕ)) → HasListed names (old dir)
    → ListsMore (λ all. HasAll all (old dir)) names before after

-- The asides among all names are found, in no order.
abbrev pub FindsAsides : (old : Option FolderHeld) → (found : List (List ℕ)) → Type 0
FindsAsides None found = Unit {0}
FindsAsides (Some held) found =
    (names : List (List ℕ)) × AreAll names held.files × InNameOrder file_name held.files
    × (found ≡ filter is_aside_name names)

-- The names of the asides are appended.
abbrev pub AppendsAsides : (old : Option FolderHeld) → (before after : List (List ℕ)) → Type 0
AppendsAsides None before after = Unit {0}
AppendsAsides (Some held) before after = after ≡ before ++ asides held.files
