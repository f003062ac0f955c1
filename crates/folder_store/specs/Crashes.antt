-- What a crash may leave of a file after calls of the system, the last one first, as POSIX has it: what was written to
-- a file is safe once it was synced, and a rename puts all of a file in the place of another at once. A name is safe
-- once its folder was synced; nothing here rests on that, since before that both may be left.
use Rattle.std.specs.Prelude.{ℕ, ◌≡◌, ◌≢◌, ◌⊎◌, ◌++◌, ◌||◌, Bool, true, false, List, [], ◌∷◌, take, bytes_eq, option_map, Option, None, Some, Ok, if◌then◌else◌}
use Rattle.std.specs.declared.io.ErrorKind.{ErrorKind}
use Rattle.system_calls.specs.DiskCalls.{DiskCall, Opened, Made, Wrote, Synced, Closed, Renamed, Removed}
use Rattle.folder_store.specs.FolderCalls.{Writes, Syncs, Renames}

abbrev pub is_this : (path : List ℕ) → Option (List ℕ) → Bool
is_this path None = false
is_this path (Some other) = bytes_eq path other

-- the path of the open file, which may be another one by now
abbrev pub open_after : List DiskCall → Option (List ℕ)
open_after [] = None
open_after (Opened path None ∷ before) = Some path
open_after (Made path None ∷ before) = Some path
open_after (Closed ∷ before) = None
open_after (Renamed from to None ∷ before) =
    if is_this from (open_after before) then Some to else open_after before
open_after (call ∷ before) = open_after before

-- whether this file is open
abbrev pub is_open : (path : List ℕ) → List DiskCall → Bool
is_open path calls = is_this path (open_after calls)

-- whether a call may change what this file holds, or its name
abbrev pub touches : (path : List ℕ) → DiskCall → (before : List DiskCall) → Bool
touches path (Made other failure) before = bytes_eq path other
touches path (Wrote bytes answer) before = is_open path before
touches path (Renamed from to failure) before = bytes_eq path from || bytes_eq path to
touches path (Removed other failure) before = bytes_eq path other
touches path call before = false

-- what a file holds by one more call that touches it, where that is known
abbrev pub held_by : DiskCall → Option (List ℕ) → Option (List ℕ)
held_by (Made path None) held = Some []
held_by (Wrote bytes (Ok n)) held = option_map (λ text. text ++ take n bytes) held
held_by call held = None

-- what a file holds that was made by one of these calls, where that is known
abbrev pub held_after : (path : List ℕ) → List DiskCall → Option (List ℕ)
held_after path [] = None
held_after path (call ∷ before) =
    if touches path call before then held_by call (held_after path before) else held_after path before

abbrev pub syncs_it : (path : List ℕ) → DiskCall → (before : List DiskCall) → Bool
syncs_it path (Synced None) before = is_open path before
syncs_it path call before = false

-- whether it was synced since it was last touched
abbrev pub is_safe : (path : List ℕ) → List DiskCall → Bool
is_safe path [] = false
is_safe path (call ∷ before) =
    if touches path call before then false else syncs_it path call before || is_safe path before

-- of a file that is safe a crash leaves what it holds, and of another one anything
abbrev pub LeavesHeld : (safe : Bool) → (held : Option (List ℕ)) → (content : Option (List ℕ)) → Type 0
LeavesHeld true (Some text) content = content ≡ Some text
LeavesHeld safe held content = Unit {0}

-- what a call that touches a file may leave of it: a renaming what it is named to, or nothing where it is named away
abbrev pub TouchLeaves : (path : List ℕ) → DiskCall → (before : List DiskCall) → (content : Option (List ℕ)) → Type 0
TouchLeaves path (Renamed from to failure) before content =
    ((path ≡ to) × LeavesHeld (is_safe from before) (held_after from before) content)
    ⊎ ((path ≡ from) × (content ≡ None))
TouchLeaves path (Removed other failure) before content = content ≡ None
TouchLeaves path call before content = Unit {0}

-- A crash may leave this content of the file that had that one at the entry; nothing stands for no such file.
abbrev pub MayLeave : (path : List ℕ) → (entry : Option (List ℕ)) → List DiskCall → (content : Option (List ℕ)) → Type 0
MayLeave path entry [] content = content ≡ entry
MayLeave path entry (call ∷ before) content =
    MayLeave path entry before content
    ⊎ ((touches path call before ≡ true) × TouchLeaves path call before content)

-- A saving of these bytes came so far: they are written aside, that is synced, and put in the place of the file; then
-- the folder is synced. What gave nothing is the last.
abbrev pub IsSaving : (dir path aside bytes : List ℕ) → List DiskCall → Type 0
IsSaving dir path aside bytes calls =
    (failure : Option ErrorKind) × (Writes aside bytes (Some []) (Some calls) failure
    ⊎ ((written : List DiskCall) × Writes aside bytes (Some []) (Some written) None
    × (Syncs aside (Some written) (Some calls) failure
    ⊎ ((synced : List DiskCall) × Syncs aside (Some written) (Some synced) None
    × (Renames aside path (Some synced) (Some calls) failure
    ⊎ ((renamed : List DiskCall) × Renames aside path (Some synced) (Some renamed) None
    × Syncs dir (Some renamed) (Some calls) failure))))))

-- After each call of a saving a crash leaves of the file what it had, or all that is saved.
abbrev pub SavesWhole : Type 0
SavesWhole =
    (dir path aside bytes : List ℕ) (calls later made : List DiskCall) → path ≢ aside
    → IsSaving dir path aside bytes calls → calls ≡ later ++ made → (entry content : Option (List ℕ))
    → MayLeave path entry made content → (content ≡ entry) ⊎ (content ≡ Some bytes)
