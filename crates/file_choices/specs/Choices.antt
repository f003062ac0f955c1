-- What a file may be left as, by the calls that were made of a store since an entry.
use Rattle.std.specs.Prelude.{ℕ, ◌≡◌, Bool, true, false, not, ◌&&◌, List, [], ◌∷◌, Option, Some, None, is_some, if◌then◌else◌}
use Rattle.world.specs.FileNames.{aside_of, is_name}
use Rattle.world.specs.FileLists.{StoreFile, file_at}
use Rattle.world.specs.CrashImages.{ChangedFile, changed_file, unchanged}
use Rattle.world.specs.DiskChanges.{with_content}
use Rattle.world.specs.StoreFails.{StoreFails}
use Rattle.world.specs.StoreCalls.{StoreCall, StoreTold, Reading, Unread, Found, Missing, ListedAsides, ReadFile, WroteAside, SyncedAside, RenamedAside, RemovedFile, SettledFiles, store_answered}
use Rattle.file_choices.specs.StoreWalks.{IsAnswered}

-- A renaming adds the text that was last written aside. Where there is none it adds nothing.
abbrev pub with_aside : Option (List ℕ) → (unsynced : Bool) → ChangedFile → ChangedFile
with_aside None unsynced file = file
with_aside (Some bytes) unsynced file = with_content (Some bytes) unsynced file

-- the choices of the file of a name after a call, by what it read as before it and the text last written aside: a
-- removal adds "no file". A settling leaves what the file reads as alone, but of a file that took the place of no
-- synced aside it takes nothing away. Nor does a call that failed.
abbrev pub choices_after : (name : List ℕ) → StoreCall → (reads aside : Option (List ℕ)) → ChangedFile → ChangedFile
choices_after name (ListedAsides names) reads aside file = file
choices_after name (ReadFile other reading) reads aside file = file
choices_after name (WroteAside other bytes done) reads aside file = file
choices_after name (SyncedAside other done) reads aside file = file
choices_after name (RenamedAside other done) reads aside file =
    if is_name name other then with_aside aside (not done && file.unsynced) file else file
choices_after name (RemovedFile other done) reads aside file =
    if is_name name other then with_content None (not done && file.unsynced) file else file
choices_after name (SettledFiles true) reads aside file = if file.unsynced then file else unchanged name reads
choices_after name (SettledFiles false) reads aside file = file

abbrev pub aside_after : (name : List ℕ) → StoreCall → Option (List ℕ) → Option (List ℕ)
aside_after name (WroteAside other bytes done) aside = if is_name name other then Some bytes else aside
aside_after name call aside = aside

-- what the file reads as after a call, where that is known: a renaming or a removal of it that failed may have been
-- done
abbrev pub reads_after : (name : List ℕ) → StoreCall → (aside : Option (List ℕ)) → Option (Option (List ℕ))
    → Option (Option (List ℕ))
reads_after name (RenamedAside other done) aside reads =
    if is_name name other then (if done then Some aside else None) else reads
reads_after name (RemovedFile other done) aside reads =
    if is_name name other then (if done then Some None else None) else reads
reads_after name call aside reads = reads

abbrev pub is_read : Reading → Bool
is_read (Found bytes) = true
is_read Missing = true
is_read Unread = false

-- whether the call didn't fail
abbrev pub succeeded : StoreCall → Bool
succeeded (ListedAsides names) = is_some names
succeeded (ReadFile name reading) = is_read reading
succeeded (WroteAside name bytes done) = done
succeeded (SyncedAside name done) = done
succeeded (RenamedAside name done) = done
succeeded (RemovedFile name done) = done
succeeded (SettledFiles done) = done

-- whether a settling that was done left the file as it reads, and no call failed since
abbrev pub calm_after : StoreCall → ChangedFile → Bool → Bool
calm_after (SettledFiles true) file calm = not file.unsynced
calm_after call file calm = succeeded call && calm

-- whether there is no choice
abbrev pub is_alone : List (Option (List ℕ)) → Bool
is_alone [] = true
is_alone (content ∷ []) = true
is_alone (content ∷ other ∷ more) = false

abbrev pub is_single : ChangedFile → Bool
is_single file = not file.unsynced && (not file.torn && is_alone file.contents)

-- what a store tells, and of one file the text last written aside, what it reads as where that is known, its choices,
-- and whether no call failed since it had but one
pub record Chosen : Type 0 where
  pub told : StoreTold
  pub aside : Option (List ℕ)
  pub reads : Option (Option (List ℕ))
  pub file : ChangedFile
  pub calm : Bool

-- at the entry the choices are what a crash may leave
abbrev pub chosen_at : (name : List ℕ) → StoreTold → Chosen
chosen_at name told =
    let file = changed_file name (file_at name told.files) told.disk in
    record {
      told = told;
      aside = file_at (aside_of name) told.files;
      reads = Some (file_at name told.files);
      file = file;
      calm = is_single file;
    }

abbrev pub chosen_after : (name : List ℕ) → StoreCall → List StoreFile → Chosen → Chosen
chosen_after name call files old = record {
  told = store_answered call files old.told;
  aside = aside_after name call old.aside;
  reads = reads_after name call old.aside old.reads;
  file = choices_after name call (file_at name old.told.files) old.aside old.file;
  calm = calm_after call old.file old.calm;
}

-- the choices of a file along calls that were answered so
abbrev pub Chooses : Option StoreFails → (name : List ℕ) → List StoreCall → Chosen → Chosen → Type 0
Chooses failing name [] old new = new ≡ old
Chooses failing name (call ∷ calls) old new =
    (files : List StoreFile) × IsAnswered failing call old.told files
    × Chooses failing name calls (chosen_after name call files old) new
