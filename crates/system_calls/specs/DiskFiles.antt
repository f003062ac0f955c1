-- What a disk holds of the files in one folder, where it tells that, and what each call of the system makes of these,
-- as IEEE Std 1003.1 says of open, read, write, fsync, rename, unlink and readdir.
use Rattle.std.specs.Prelude.{ℕ, Bool, true, false, ◌≡◌, ◌⊎◌, List, [], ◌∷◌, ◌++◌, take, filter, map, Option, None, Some, is_some, Result, Ok, Err, IsPermutation}
use Rattle.std.specs.List.{list_all}
use Rattle.std.specs.declared.io.ErrorKind.{ErrorKind}
use Rattle.world.specs.FileNames.{is_file_byte, is_name, IsFileName}
use Rattle.world.specs.FileLists.{StoreFile, file_name, file_at, put_file, drop_file}
use Rattle.world.specs.NamedLists.{InNameOrder}
use Rattle.world.specs.StoreCalls.{StoreTold}
use Rattle.system_calls.specs.DiskCalls.{DiskCall, Opened, Made, Read, Wrote, Renamed, Removed, Listed, Named, is_no_text, is_missing}
use Rattle.system_calls.specs.Paths.{file_path}

-- what was opened last
pub data Handle : Type 0 where
  -- nothing that is told of
  NoHandle : Handle
  -- a file, of which these bytes are still to be read; or a folder, of which none can be
  ToRead : (rest : Option (List ℕ)) → Handle
  -- the file of this name; these bytes were written to it since it was made
  ToWrite : (name bytes : List ℕ) → Handle
  -- the folder; these of its names were given so far
  ToList : (names : List (List ℕ)) → Handle

pub record FolderHeld : Type 0 where
  -- The files as they read now, in byte order of their names. Whatever is in the folder under a name that a store's
  -- file may have is one of these.
  pub files : List StoreFile
  pub handle : Handle
  -- what is told of the folder's store, as of its last answer, or since its next call began
  pub told : StoreTold

-- A file may have any bytes, or is as it was.
abbrev pub LeavesAny : (name : List ℕ) → (old new : List StoreFile) → Type 0
LeavesAny name old new =
    (new ≡ old) ⊎ ((left : List ℕ) × (new ≡ put_file (record { name = name; bytes = left }) old))

-- A file is empty, whether or not it was there.
abbrev pub Empties : (name : List ℕ) → Option ErrorKind → (old new : List StoreFile) → Type 0
Empties name None old new = new ≡ put_file (record { name = name; bytes = [] }) old
Empties name (Some failure) old new = LeavesAny name old new

-- So many of the bytes stand behind what was written.
abbrev pub Puts : (bytes : List ℕ) → Result ℕ ErrorKind → Handle → (old new : List StoreFile) → Type 0
Puts bytes (Ok n) (ToWrite name before) old new =
    new ≡ put_file (record { name = name; bytes = before ++ take n bytes }) old
Puts bytes (Err failure) (ToWrite name before) old new = LeavesAny name old new
Puts bytes answer place old new = Unit {0}

-- the file of a name is that of another name, in place of the file that had that
abbrev pub move_file : (from to : List ℕ) → Option (List ℕ) → List StoreFile → List StoreFile
move_file from to None files = files
move_file from to (Some bytes) files = drop_file from (put_file (record { name = to; bytes = bytes }) files)

-- Only a file that is there is moved. One that couldn't be was moved or not.
abbrev pub Moves : (from to : List ℕ) → Option ErrorKind → (old new : List StoreFile) → Type 0
Moves from to None old new = (is_some (file_at from old) ≡ true) × (new ≡ move_file from to (file_at from old) old)
Moves from to (Some failure) old new = (new ≡ old) ⊎ (new ≡ move_file from to (file_at from old) old)

-- A file that couldn't be removed is missing, as the failure says, or else was removed or not.
abbrev pub FailsToDrop : (missing : Bool) → (name : List ℕ) → (old new : List StoreFile) → Type 0
FailsToDrop true name old new = (file_at name old ≡ None) × (new ≡ old)
FailsToDrop false name old new = (new ≡ old) ⊎ (new ≡ drop_file name old)

abbrev pub Drops : (name : List ℕ) → Option ErrorKind → (old new : List StoreFile) → Type 0
Drops name None old new = new ≡ drop_file name old
Drops name (Some failure) old new = FailsToDrop (is_missing failure) name old new

-- the files after a call
abbrev pub LeavesFiles : (dir : List ℕ) → DiskCall → (old : FolderHeld) → (files : List StoreFile) → Type 0
LeavesFiles dir (Made path failure) old files =
    (name : List ℕ) → IsFileName name → path ≡ file_path dir name → Empties name failure old.files files
LeavesFiles dir (Wrote bytes answer) old files = Puts bytes answer old.handle old.files files
LeavesFiles dir (Renamed path other failure) old files =
    (from to : List ℕ) → IsFileName from → IsFileName to → is_name from to ≡ false → path ≡ file_path dir from
    → other ≡ file_path dir to → Moves from to failure old.files files
LeavesFiles dir (Removed path failure) old files =
    (name : List ℕ) → IsFileName name → path ≡ file_path dir name → Drops name failure old.files files
LeavesFiles dir call old files = files ≡ old.files

-- What is read of a file stands at the front of what was still to be read. It is nothing only at the end. Reading a
-- folder fails.
abbrev pub Gives : (bytes : List ℕ) → (old new : Handle) → Type 0
Gives bytes (ToRead None) new = ⊥
Gives bytes (ToRead (Some rest)) new =
    (more : List ℕ) × (rest ≡ bytes ++ more) × (bytes ≡ [] → more ≡ []) × (new ≡ ToRead (Some more))
Gives bytes old new = Unit {0}

abbrev pub GoesBehind : (bytes : List ℕ) → (old new : Handle) → Type 0
GoesBehind bytes (ToWrite name before) new = new ≡ ToWrite name (before ++ bytes)
GoesBehind bytes old new = Unit {0}

-- whether a name is one that a store's file may have
abbrev pub is_file_name : List ℕ → Bool
is_file_name name = list_all is_file_byte name

-- Where a listing ends, it gave the name of each file once, in no order, and no other that a store's file may have.
abbrev pub AreAll : (names : List (List ℕ)) → List StoreFile → Type 0
AreAll names files = IsPermutation (filter is_file_name names) (map file_name files)

-- a name, the end, or a name that is no text
abbrev pub ListsName : Result (Option (List ℕ)) ErrorKind → (old new : Handle) → List StoreFile → Type 0
ListsName (Ok (Some name)) (ToList names) new files = new ≡ ToList (names ++ name ∷ [])
ListsName (Ok None) (ToList names) new files = AreAll names files
ListsName (Err failure) (ToList names) new files = is_no_text failure ≡ true → new ≡ ToList names
ListsName answer old new files = Unit {0}

-- What is open after a call. A file that is missing isn't there. A name of no file that can be opened is that of a
-- folder: `.` is this one, and `..` the one above it.
abbrev pub LeavesOpen : (dir : List ℕ) → DiskCall → (old : FolderHeld) → (place : Handle) → Type 0
LeavesOpen dir (Opened path None) old place =
    (name : List ℕ) → IsFileName name → path ≡ file_path dir name → place ≡ ToRead (file_at name old.files)
LeavesOpen dir (Opened path (Some failure)) old place =
    (name : List ℕ) → IsFileName name → path ≡ file_path dir name → is_missing failure ≡ true
    → file_at name old.files ≡ None
LeavesOpen dir (Made path None) old place =
    (name : List ℕ) → IsFileName name → path ≡ file_path dir name → place ≡ ToWrite name []
LeavesOpen dir (Read (Ok bytes)) old place = Gives bytes old.handle place
LeavesOpen dir (Wrote bytes (Ok n)) old place = GoesBehind (take n bytes) old.handle place
LeavesOpen dir (Listed path None) old place = path ≡ dir → place ≡ ToList []
LeavesOpen dir (Named answer) old place = ListsName answer old.handle place old.files
LeavesOpen dir call old place = Unit {0}

-- what a call makes of the folder
pub record Makes (dir : List ℕ) (call : DiskCall) (old new : FolderHeld) : Type 0 where
  pub files : LeavesFiles dir call old new.files
  pub in_order : InNameOrder file_name new.files
  pub handle : LeavesOpen dir call old new.handle
  pub told : new.told ≡ old.told

-- Where nothing is told of a folder before, nothing is told afterwards.
abbrev pub Holds : (dir : List ℕ) → DiskCall → (old new : Option FolderHeld) → Type 0
Holds dir call None new = new ≡ None
Holds dir call (Some old) new = (it : FolderHeld) × Makes dir call old it × (new ≡ Some it)

-- what a call makes of each folder, each by its path
abbrev pub Tells : DiskCall → (old new : List ℕ → Option FolderHeld) → Type 0
Tells call old new = (dir : List ℕ) → Holds dir call (old dir) (new dir)
