-- How a store's calls change what a crash may leave of its files. Each takes what the file reads as before the call.
use Rattle.std.specs.Prelude.{ℕ, Bool, true, ◌||◌, ◌&&◌, not, List, ◌∷◌, filter, Option, Some, None}
use Rattle.world.specs.FileNames.{aside_of, is_name}
use Rattle.world.specs.CrashImages.{ChangedFile, changed_file}

-- the file may also have one more content; `unsynced` tells whether what it reads as from now on wasn't synced
abbrev pub with_content : Option (List ℕ) → (unsynced : Bool) → ChangedFile → ChangedFile
with_content content unsynced file =
    record { name = file.name; contents = content ∷ file.contents; torn = unsynced || file.torn; unsynced = unsynced }

-- From its writing until it is synced an aside may hold any bytes.
abbrev pub written : (aside bytes : List ℕ) → Option (List ℕ) → List ChangedFile → List ChangedFile
written aside bytes reads disk = with_content (Some bytes) true (changed_file aside reads disk) ∷ disk

-- A synced aside is as it reads.
abbrev pub synced : (aside : List ℕ) → Option (List ℕ) → List ChangedFile → List ChangedFile
synced aside None disk = disk
synced aside (Some bytes) disk = filter (λ file. not (is_name aside file.name)) disk

-- A removal is done or not done.
abbrev pub removed : (name : List ℕ) → (done : Bool) → Option (List ℕ) → List ChangedFile → List ChangedFile
removed name done reads disk =
    let file = changed_file name reads disk in
    with_content None (not done && file.unsynced) file ∷ disk

-- So is a renaming: the file has what the aside read as, and the aside is no more. Where there is no aside, nothing
-- changes.
abbrev pub renamed : (name : List ℕ) → (done : Bool) → (reads aside : Option (List ℕ)) → List ChangedFile
    → List ChangedFile
renamed name done reads None disk = disk
renamed name done reads (Some bytes) disk =
    let file = changed_file name reads disk in
    let aside = changed_file (aside_of name) (Some bytes) disk in
    with_content None (not done && aside.unsynced) aside
    ∷ with_content (Some bytes) (aside.unsynced || (not done && file.unsynced)) file ∷ disk

-- A settling leaves only the files of which what they read as wasn't synced.
abbrev pub settled : List ChangedFile → List ChangedFile
settled disk = filter (λ file. (changed_file file.name None disk).unsynced) disk
