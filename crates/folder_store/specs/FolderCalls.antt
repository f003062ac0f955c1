-- What the files of a folder want of the system. `old` and `new` are the calls before and after, the last one first.
use Rattle.std.specs.Prelude.{ℕ, Bool, true, false, ◌≡◌, ◌≤◌, ◌-◌, ◌^◌, ◌⊎◌, ◌&&◌, List, [], ◌∷◌, ◌++◌, length, take, filter, map, Option, None, Some, Result, Ok, Err, IsTrue, String, IsPermutation}
use Rattle.std.specs.Global.{Global}
use Rattle.std.specs.String.{string_bytes}
use Rattle.std.specs.List.{list_all}
use Rattle.std.specs.declared.io.ErrorKind.{ErrorKind}
use Rattle.std.specs.declared.io.ErrorKind.TheVariants as kind
use Rattle.world.specs.declared.faults.DeviceAnswer.{DeviceAnswer}
use Rattle.world.specs.declared.faults.DeviceAnswer.TheVariants as Answer
use Rattle.world.specs.FileNames.{is_file_byte}
use Rattle.world.specs.FileLists.{is_aside}
use Rattle.system_calls.specs.Asking.{Does, reason_of}
use Rattle.system_calls.specs.DiskCalls.{DiskCall, Opened, Made, Read, Wrote, Synced, Closed, Renamed, Removed, Listed, Named, read_by, written_by, named_by, is_piece, is_write, is_entry, is_no_text, is_missing}

-- Memory is wanted before anything is asked.
abbrev pub IsUnasked : DeviceAnswer → (old new : Option (List DiskCall)) → Type 0
IsUnasked answer old new = (answer ≡ Answer.NoMemory) × (new ≡ old)

-- A file or a folder is opened, synced and closed. One that can't be opened isn't synced.
abbrev pub Syncs : (path : List ℕ) → (old new : Option (List DiskCall)) → Option ErrorKind → Type 0
Syncs path old new None = Does (Closed ∷ Synced None ∷ Opened path None ∷ []) old new
Syncs path old new (Some kind) =
    Does (Opened path (Some kind) ∷ []) old new ⊎ Does (Closed ∷ Synced (Some kind) ∷ Opened path None ∷ []) old new

-- these bytes were written to the open file, in pieces
pub record WritesAll (bytes : List ℕ) (old new : Option (List DiskCall)) : Type 0 where
  pub pieces : List DiskCall
  pub writes : IsTrue (list_all is_write pieces)
  pub whole : written_by pieces ≡ bytes
  pub asked : Does pieces old new

-- A writing fails, or puts no byte behind what was written.
abbrev pub GivesNothing : Result ℕ ErrorKind → ErrorKind → Type 0
GivesNothing (Ok n) failure = (n ≡ 0) × (failure ≡ kind.WriteZero)
GivesNothing (Err reason) failure = reason ≡ failure

-- a front of them was written, in pieces, and nothing of the rest
pub record WritesSome (bytes : List ℕ) (failure : ErrorKind) (old new : Option (List DiskCall)) : Type 0 where
  pub pieces : List DiskCall
  pub writes : IsTrue (list_all is_write pieces)
  pub rest : List ℕ
  pub front : written_by pieces ++ rest ≡ bytes
  pub answer : Result ℕ ErrorKind
  pub gives_nothing : GivesNothing answer failure
  pub asked : Does (Wrote rest answer ∷ pieces) old new

abbrev pub WritesOn : (bytes : List ℕ) → (old new : Option (List DiskCall)) → Option ErrorKind → Type 0
WritesOn bytes old new None = WritesAll bytes old new
WritesOn bytes old new (Some failure) = WritesSome bytes failure old new

-- a file is made anew, written to and closed
pub record WritesTo (path bytes : List ℕ) (failure : Option ErrorKind) (old new : Option (List DiskCall)) : Type 0 where
  pub opened : Option (List DiskCall)
  pub ended : Option (List DiskCall)
  pub made : Does (Made path None ∷ []) old opened
  pub written : WritesOn bytes opened ended failure
  pub closed : Does (Closed ∷ []) ended new

abbrev pub Writes : (path bytes : List ℕ) → (old new : Option (List DiskCall)) → Option ErrorKind → Type 0
Writes path bytes old new None = WritesTo path bytes None old new
Writes path bytes old new (Some kind) =
    Does (Made path (Some kind) ∷ []) old new ⊎ WritesTo path bytes (Some kind) old new

-- A file that isn't there is removed already.
abbrev pub Removes : (path : List ℕ) → (old new : Option (List DiskCall)) → Option ErrorKind → Type 0
Removes path old new None =
    Does (Removed path None ∷ []) old new
    ⊎ ((kind : ErrorKind) × (is_missing kind ≡ true) × Does (Removed path (Some kind) ∷ []) old new)
Removes path old new (Some kind) = (is_missing kind ≡ false) × Does (Removed path (Some kind) ∷ []) old new

-- all that the open file holds was read, to its end
pub record ReadsAll (old new : Option (List DiskCall)) (before after : List ℕ) : Type 0 where
  pub pieces : List DiskCall
  pub reads : IsTrue (list_all is_piece pieces)
  pub appended : after ≡ before ++ read_by pieces
  pub asked : Does (Read (Ok []) ∷ pieces) old new

-- the most pieces that are read of one file, and the most names that are asked for of one folder
abbrev pub most_pieces : ℕ
most_pieces = 2 ^ 64 - 1

-- Why calls that go on one after another ended before their end: the next one failed, memory ran out, or there were too
-- many of them.
abbrev pub EndsEarly : (failed : ErrorKind → DiskCall) → (made : List DiskCall) → (answer : DeviceAnswer)
    → (old new : Option (List DiskCall)) → Type 0
EndsEarly failed made answer old new =
    ((failure : ErrorKind) × (answer ≡ reason_of failure) × Does (failed failure ∷ made) old new)
    ⊎ ((answer ≡ Answer.NoMemory) × Does made old new)
    ⊎ ((answer ≡ Answer.Failed) × (most_pieces ≤ length made) × Does made old new)

abbrev pub read_failed : ErrorKind → DiskCall
read_failed failure = Read (Err failure)

-- some pieces were read, or none, but not to the end of the file
pub record ReadsSome (answer : DeviceAnswer) (old new : Option (List DiskCall)) : Type 0 where
  pub pieces : List DiskCall
  pub reads : IsTrue (list_all is_piece pieces)
  pub ends : EndsEarly read_failed pieces answer old new

-- Where reading fails, a front of what the file holds may be appended.
abbrev pub ReadsOn : {T : Type 0} → (old new : Option (List DiskCall)) → (before after : List ℕ) → Result T DeviceAnswer
    → Type 0
ReadsOn old new before after (Ok x) = ReadsAll old new before after
ReadsOn old new before after (Err answer) = (take (length before) after ≡ before) × ReadsSome answer old new

-- what is read of a file that was opened, and is closed then; the calls are those since it was opened
pub record ReadsAndCloses (reads : (old new : Option (List DiskCall)) → Type 0)
    (opened new : Option (List DiskCall)) : Type 0 where
  pub ended : Option (List DiskCall)
  pub read : reads opened ended
  pub closed : Does (Closed ∷ []) ended new

-- a file is opened, read and closed
pub record ReadsIt (path : List ℕ) (reads : (old new : Option (List DiskCall)) → Type 0)
    (old new : Option (List DiskCall)) : Type 0 where
  pub opened : Option (List DiskCall)
  pub begun : Does (Opened path None ∷ []) old opened
  pub rest : ReadsAndCloses reads opened new

-- it can't be opened, which says that there is no such file
pub record IsMissing (path : List ℕ) (old new : Option (List DiskCall)) : Type 0 where
  pub kind : ErrorKind
  pub is_so : is_missing kind ≡ true
  pub asked : Does (Opened path (Some kind) ∷ []) old new

-- it can't be opened for another reason
pub record Refused (path : List ℕ) (answer : DeviceAnswer) (old new : Option (List DiskCall)) : Type 0 where
  pub kind : ErrorKind
  pub is_there : is_missing kind ≡ false
  pub reason : answer ≡ reason_of kind
  pub asked : Does (Opened path (Some kind) ∷ []) old new

abbrev pub ReadsOpened : (opened new : Option (List DiskCall)) → (before after : List ℕ) → Result Bool DeviceAnswer
    → Type 0
ReadsOpened opened new before after (Ok true) = ReadsAndCloses (λ old new. ReadsAll old new before after) opened new
ReadsOpened opened new before after (Ok false) = ⊥
ReadsOpened opened new before after (Err answer) =
    (after ≡ before) × ReadsAndCloses (ReadsSome answer) opened new

-- what the reading of a file gives that can't be opened
abbrev pub IsUnopened : ErrorKind → Result Bool DeviceAnswer → Type 0
IsUnopened failure (Ok true) = ⊥
IsUnopened failure (Ok false) = is_missing failure ≡ true
IsUnopened failure (Err answer) = (is_missing failure ≡ false) × (answer ≡ reason_of failure)

-- A file is missing where the system says so when it is opened, and for no other failure. Want of memory may come
-- before it is opened.
abbrev pub ReadsPath : (path : List ℕ) → (old new : Option (List DiskCall)) → (before after : List ℕ)
    → Result Bool DeviceAnswer → Type 0
ReadsPath path old new before after (Ok true) = ReadsIt path (λ old new. ReadsAll old new before after) old new
ReadsPath path old new before after (Ok false) = (after ≡ before) × IsMissing path old new
ReadsPath path old new before after (Err answer) =
    (after ≡ before)
    × (IsUnasked answer old new ⊎ Refused path answer old new ⊎ ReadsIt path (ReadsSome answer) old new)

-- a name that a store's aside may have
abbrev pub is_aside_name : List ℕ → Bool
is_aside_name name = is_aside name && list_all is_file_byte name

-- the file has the other name, in place of the one that had it
abbrev pub Renames : (from to : List ℕ) → (old new : Option (List DiskCall)) → Option ErrorKind → Type 0
Renames from to old new failure = Does (Renamed from to failure ∷ []) old new

-- one more entry of the folder, and what it adds to the asides
pub record ListsEntry (old new : Option (List DiskCall)) (before after : List (List ℕ)) : Type 0 where
  pub entry : DiskCall
  pub is_one : is_entry entry ≡ true
  pub found : after ≡ before ++ filter is_aside_name (named_by (entry ∷ []))
  pub asked : Does (entry ∷ []) old new

-- the next name can't be had, or can't be kept for want of memory
abbrev pub FailsToName : DeviceAnswer → (old new : Option (List DiskCall)) → Type 0
FailsToName answer old new =
    ((failure : ErrorKind) × (is_no_text failure ≡ false) × (answer ≡ reason_of failure)
    × Does (Named (Err failure) ∷ []) old new)
    ⊎ ((name : List ℕ) × (answer ≡ Answer.NoMemory) × Does (Named (Ok (Some name)) ∷ []) old new)

-- whether the listing goes on
abbrev pub ListsOne : (old new : Option (List DiskCall)) → (before after : List (List ℕ)) → Result Bool DeviceAnswer
    → Type 0
ListsOne old new before after (Ok true) = ListsEntry old new before after
ListsOne old new before after (Ok false) = (after ≡ before) × Does (Named (Ok None) ∷ []) old new
ListsOne old new before after (Err answer) = (after ≡ before) × FailsToName answer old new

-- the asides among the names that the folder went on to list, to the end
pub record ListsOn (old new : Option (List DiskCall)) (before after : List (List ℕ)) : Type 0 where
  pub entries : List DiskCall
  pub names : IsTrue (list_all is_entry entries)
  pub found : after ≡ before ++ filter is_aside_name (named_by entries)
  pub asked : Does (Named (Ok None) ∷ entries) old new

abbrev pub name_failed : ErrorKind → DiskCall
name_failed failure = Named (Err failure)

-- some names were listed, or none, but not all
pub record ListsSome (answer : DeviceAnswer) (old new : Option (List DiskCall)) : Type 0 where
  pub entries : List DiskCall
  pub names : IsTrue (list_all is_entry entries)
  pub ends : EndsEarly name_failed entries answer old new

-- the asides among all names of the folder
pub record ListsAll (path : List ℕ) (old new : Option (List DiskCall)) (found : List (List ℕ)) : Type 0 where
  pub begun : Option (List DiskCall)
  pub list : Does (Listed path None ∷ []) old begun
  pub listed : ListsOn begun new [] found

-- a folder can't be listed, or not to the end
abbrev pub ListsNot : (path : List ℕ) → DeviceAnswer → (old new : Option (List DiskCall)) → Type 0
ListsNot path answer old new =
    ((failure : ErrorKind) × (answer ≡ reason_of failure) × Does (Listed path (Some failure) ∷ []) old new)
    ⊎ ((begun : Option (List DiskCall)) × Does (Listed path None ∷ []) old begun × ListsSome answer begun new)

-- what is found of the asides of a folder
abbrev pub Finds : {T : Type 0} → (names_of : T → List (List ℕ)) → (path : List ℕ) → (old new : Option (List DiskCall))
    → Result T DeviceAnswer → Type 0
Finds names_of path old new (Ok found) = ListsAll path old new (names_of found)
Finds names_of path old new (Err answer) = ListsNot path answer old new

-- the names of all asides of the folder were appended, each as often as it was listed
pub record AppendsAll (path : List ℕ) (old new : Option (List DiskCall))
    (before after : List (String Global)) : Type 0 where
  pub found : List (String Global)
  pub names : List (String Global)
  pub appended : after ≡ before ++ names
  pub same : IsPermutation found names
  pub listed : ListsAll path old new (map string_bytes found)

-- Else nothing is asked for want of memory, the folder isn't listed to its end, or memory runs out then.
abbrev pub Appends : {T : Type 0} → (path : List ℕ) → (old new : Option (List DiskCall))
    → (before after : List (String Global)) → Result T DeviceAnswer → Type 0
Appends path old new before after (Ok x) = AppendsAll path old new before after
Appends path old new before after (Err answer) =
    IsUnasked answer old new ⊎ ListsNot path answer old new
    ⊎ ((answer ≡ Answer.NoMemory) × ((found : List (List ℕ)) × ListsAll path old new found))
