-- What one call makes of what may be left of a file.
use Rattle.std.proofs.Common.{◌≡◌, ℕ, Bool, true, false, not, ◌||◌, ◌&&◌, ◌⊎◌, inl, inr, List, ◌∷◌, Option, Some, None, refl, sym, ap, subst, ◌∙◌, cond}
use Rattle.world.proofs.NetTypes.CaseLaws.{split}
use Rattle.world.specs.FileNames.{aside_of, is_name}
use Rattle.world.specs.FileLists.{StoreFile, file_at, put_file, rename_file}
use Rattle.world.specs.CrashImages.{ChangedFile, changed_name, changed_file, unchanged, MayBe}
use Rattle.world.specs.DiskChanges.{with_content, synced, renamed, settled}
use Rattle.world.specs.StoreFails.{StoreFails}
use Rattle.world.specs.StoreCalls.{StoreTold, StoreCall, ListedAsides, ReadFile, WroteAside, SyncedAside, RenamedAside, RemovedFile, SettledFiles, store_answered, disk_after, files_by, FailedFiles}
use Rattle.world.specs.SoundStores.{IsSound, LeavesFiles, was_done}
use Rattle.world.proofs.NameOrder.{name_itself, same_name, filter_stays, filter_goes}
use Rattle.world.proofs.SoundStores.{changed_is_named, settled_stays, settled_goes}
use Rattle.world.proofs.SoundCalls.{file_found, file_kept, file_left, changed_there, changed_here}
use Rattle.file_choices.specs.StoreWalks.{LeavesAsTold}
use Rattle.file_choices.specs.Choices.{with_aside, choices_after}
use Rattle.file_choices.specs.LeftWhole.{left_of, MayLeave, Stays, changes, IsApart}

-- a failed call may leave the files as they were
failed_kept : (call : StoreCall) (old new : List StoreFile) → new ≡ old → FailedFiles call old new
failed_kept (ListedAsides names) old new is = inl is
failed_kept (ReadFile name reading) old new is = inl is
failed_kept (WroteAside name bytes done) old new is = inl is
failed_kept (SyncedAside name done) old new is = inl is
failed_kept (RenamedAside name done) old new is = inl is
failed_kept (RemovedFile name done) old new is = inl is
failed_kept (SettledFiles done) old new is = inl is

-- the files that a call leaves, in less words
pub leaves_files : (failing : Option StoreFails) (call : StoreCall) (old new : List StoreFile) → LeavesAsTold failing call old new → LeavesFiles call old new
leaves_files None call old new leaves = leaves
leaves_files (Some fails) call old new leaves =
    elim (was_done call) as (λ b. was_done call ≡ b → new ≡ cond b (files_by call old) old → LeavesFiles call old new) [
      | true ↦ λ done is. inl is
      | false ↦ λ failed is. inr (failed, failed_kept call old new is)
    ] refl leaves

-- what a call that was done makes of the files it makes of them
pub done_files : (call : StoreCall) (old new : List StoreFile) → was_done call ≡ true → LeavesFiles call old new → new ≡ files_by call old
done_files call old new done (inl is) = is
done_files call old new done (inr kept) = absurd (let bad : true ≡ false = sym done ∙ kept.0 in cc)

abbrev pub is_settling : StoreCall → Bool
is_settling (SettledFiles true) = true
is_settling call = false

module _ (name : List ℕ) where
  -- ---- a call that changes another file

  renamed_apart : (other : List ℕ) (found : Option (List ℕ)) (files : List StoreFile) → is_name name (aside_of other) ≡ false → is_name name other ≡ false
      → file_at name (rename_file other found files) ≡ file_at name files
  renamed_apart other None files apart unlike = refl
  renamed_apart other (Some bytes) files apart unlike =
      file_left (aside_of other) name (put_file (record { name = other; bytes = bytes }) files) apart
      ∙ file_kept (record { name = other; bytes = bytes }) name files unlike

  made_apart : (call : StoreCall) (files : List StoreFile) → IsApart name call → changes name call ≡ false
      → file_at name (files_by call files) ≡ file_at name files
  made_apart (ListedAsides names) files apart unlike = refl
  made_apart (ReadFile other reading) files apart unlike = refl
  made_apart (WroteAside other bytes done) files apart unlike = file_kept (record { name = aside_of other; bytes = bytes }) name files apart
  made_apart (SyncedAside other done) files apart unlike = refl
  made_apart (RenamedAside other done) files apart unlike = renamed_apart other (file_at (aside_of other) files) files apart unlike
  made_apart (RemovedFile other done) files apart unlike = file_left other name files unlike
  made_apart (SettledFiles done) files apart unlike = refl

  kept_or_made : (call : StoreCall) (old new : List StoreFile) → IsApart name call → changes name call ≡ false → (new ≡ old) ⊎ (new ≡ files_by call old)
      → file_at name new ≡ file_at name old
  kept_or_made call old new apart unlike (inl kept) = ap (file_at name) kept
  kept_or_made call old new apart unlike (inr made) = ap (file_at name) made ∙ made_apart call old apart unlike

  -- what a failed writing left in an aside is in no other file
  half_written : (other bytes : List ℕ) (done : Bool) (old new : List StoreFile) → is_name name (aside_of other) ≡ false
      → FailedFiles (WroteAside other bytes done) old new → file_at name new ≡ file_at name old
  half_written other bytes done old new apart (inl kept) = ap (file_at name) kept
  half_written other bytes done old new apart (inr (left, is)) =
      ap (file_at name) is ∙ file_kept (record { name = aside_of other; bytes = left }) name old apart

  failed_apart : (call : StoreCall) (old new : List StoreFile) → IsApart name call → changes name call ≡ false → FailedFiles call old new
      → file_at name new ≡ file_at name old
  failed_apart (ListedAsides names) old new apart unlike failed = kept_or_made (ListedAsides names) old new apart unlike failed
  failed_apart (ReadFile other reading) old new apart unlike failed = kept_or_made (ReadFile other reading) old new apart unlike failed
  failed_apart (WroteAside other bytes done) old new apart unlike failed = half_written other bytes done old new apart failed
  failed_apart (SyncedAside other done) old new apart unlike failed = kept_or_made (SyncedAside other done) old new apart unlike failed
  failed_apart (RenamedAside other done) old new apart unlike failed = kept_or_made (RenamedAside other done) old new apart unlike failed
  failed_apart (RemovedFile other done) old new apart unlike failed = kept_or_made (RemovedFile other done) old new apart unlike failed
  failed_apart (SettledFiles done) old new apart unlike failed = kept_or_made (SettledFiles done) old new apart unlike failed

  pub reads_stay : (call : StoreCall) (old new : List StoreFile) → IsApart name call → changes name call ≡ false → LeavesFiles call old new
      → file_at name new ≡ file_at name old
  reads_stay call old new apart unlike (inl is) = ap (file_at name) is ∙ made_apart call old apart unlike
  reads_stay call old new apart unlike (inr failed) = failed_apart call old new apart unlike failed.1

  module _ (told : StoreTold) where
    abbrev was : List ℕ → ChangedFile
    was other = changed_file other (file_at other told.files) told.disk

    named_as : (other : List ℕ) (reads : Option (List ℕ)) (b : Bool) → is_name name other ≡ b → is_name name (changed_file other reads told.disk).name ≡ b
    named_as other reads b is = ap (is_name name) (changed_is_named other reads told.disk) ∙ is

    sync_apart : (other : List ℕ) (r content : Option (List ℕ)) → is_name name (aside_of other) ≡ false
        → changed_file name r (synced (aside_of other) content told.disk) ≡ changed_file name r told.disk
    sync_apart other r None apart = refl
    sync_apart other r (Some bytes) apart =
        filter_stays changed_name (λ f. f) (unchanged name r) name (λ f. not (is_name (aside_of other) f.name)) keeps told.disk
      where
        keeps : (x : ChangedFile) → is_name name (changed_name x) ≡ true → not (is_name (aside_of other) x.name) ≡ true
        keeps x here = ap not (by (is_name (aside_of other) x.name) refl)
          where
            by : (b : Bool) → is_name (aside_of other) x.name ≡ b → b ≡ false
            by false e = refl
            by true e = absurd (let same : name ≡ aside_of other = same_name name x.name here ∙ sym (same_name (aside_of other) x.name e) in
                let bad : true ≡ false = sym (name_itself (aside_of other)) ∙ ap (λ (n : List ℕ). is_name n (aside_of other)) (sym same) ∙ apart in cc)

    rename_apart : (other : List ℕ) (done : Bool) (r content : Option (List ℕ)) → is_name name (aside_of other) ≡ false → is_name name other ≡ false
        → changed_file name r (renamed other done (file_at other told.files) content told.disk) ≡ changed_file name r told.disk
    rename_apart other done r None apart unlike = refl
    rename_apart other done r (Some bytes) apart unlike =
        let aside : ChangedFile = changed_file (aside_of other) (Some bytes) told.disk in
        let come : ChangedFile = with_content (Some bytes) (aside.unsynced || (not done && (was other).unsynced)) (was other) in
        changed_there name r (with_content None (not done && aside.unsynced) aside) (come ∷ told.disk) (named_as (aside_of other) (Some bytes) false apart)
        ∙ changed_there name r come told.disk (named_as other (file_at other told.files) false unlike)

    disk_apart : (call : StoreCall) (r : Option (List ℕ)) → IsApart name call → changes name call ≡ false → is_settling call ≡ false
        → changed_file name r (disk_after call told.files told.disk) ≡ changed_file name r told.disk
    disk_apart (ListedAsides names) r apart unlike going = refl
    disk_apart (ReadFile other reading) r apart unlike going = refl
    disk_apart (WroteAside other bytes done) r apart unlike going =
        changed_there name r (with_content (Some bytes) true (was (aside_of other))) told.disk
        (named_as (aside_of other) (file_at (aside_of other) told.files) false apart)
    disk_apart (SyncedAside other true) r apart unlike going = sync_apart other r (file_at (aside_of other) told.files) apart
    disk_apart (SyncedAside other false) r apart unlike going = refl
    disk_apart (RenamedAside other done) r apart unlike going = rename_apart other done r (file_at (aside_of other) told.files) apart unlike
    disk_apart (RemovedFile other done) r apart unlike going =
        changed_there name r (with_content None (not done && (was other).unsynced) (was other)) told.disk
        (named_as other (file_at other told.files) false unlike)
    disk_apart (SettledFiles true) r apart unlike going = cc
    disk_apart (SettledFiles false) r apart unlike going = refl

    pub left_apart : (call : StoreCall) (files : List StoreFile) → IsApart name call → changes name call ≡ false → is_settling call ≡ false
        → LeavesFiles call told.files files
        → left_of name (store_answered call files told) ≡ left_of name told
    left_apart call files apart unlike going leaves =
        disk_apart call (file_at name files) apart unlike going
        ∙ ap (λ (r : Option (List ℕ)). changed_file name r told.disk) (reads_stay call told.files files apart unlike leaves)

    -- ---- the file itself

    module _ (file : ChangedFile) (left : left_of name told ≡ file) where
      pub removed_here : (other : List ℕ) (done : Bool) (files : List StoreFile) → is_name name other ≡ true
          → left_of name (store_answered (RemovedFile other done) files told) ≡ with_content None (not done && file.unsynced) file
      removed_here other done files here =
          changed_here name (file_at name files) (with_content None (not done && (was other).unsynced) (was other)) told.disk
          (named_as other (file_at other told.files) true here)
          ∙ ap (λ (f : ChangedFile). with_content None (not done && f.unsynced) f) (ap was (sym (same_name name other here)) ∙ left)

      -- an aside that was synced takes its place
      pub renamed_here : (other bytes : List ℕ) (done : Bool) (files : List StoreFile) → is_name name other ≡ true → is_name name (aside_of other) ≡ false
          → file_at (aside_of other) told.files ≡ Some bytes → (was (aside_of other)).unsynced ≡ false
          → left_of name (store_answered (RenamedAside other done) files told) ≡ with_content (Some bytes) (not done && file.unsynced) file
      renamed_here other bytes done files here apart there whole =
          ap (λ (o : Option (List ℕ)). changed_file name (file_at name files) (renamed other done (file_at other told.files) o told.disk)) there
          ∙ changed_there name (file_at name files) (with_content None (not done && aside.unsynced) aside) (come ∷ told.disk)
          (named_as (aside_of other) (Some bytes) false apart)
          ∙ changed_here name (file_at name files) come told.disk (named_as other (file_at other told.files) true here)
          ∙ ap (λ (b : Bool). with_content (Some bytes) (b || (not done && (was other).unsynced)) (was other)) aside_whole
          ∙ ap (λ (f : ChangedFile). with_content (Some bytes) (not done && f.unsynced) f) (ap was (sym (same_name name other here)) ∙ left)
        where
          aside : ChangedFile
          aside = changed_file (aside_of other) (Some bytes) told.disk

          come : ChangedFile
          come = with_content (Some bytes) (aside.unsynced || (not done && (was other).unsynced)) (was other)

          aside_whole : aside.unsynced ≡ false
          aside_whole = ap (λ (o : Option (List ℕ)). (changed_file (aside_of other) o told.disk).unsynced) (sym there) ∙ whole

      pub settled_here : (files : List StoreFile) → LeavesFiles (SettledFiles true) told.files files
          → left_of name (store_answered (SettledFiles true) files told) ≡ cond file.unsynced file (unchanged name (file_at name told.files))
      settled_here files leaves =
          ap (λ (r : Option (List ℕ)). changed_file name r (settled told.disk)) (reads_stay (SettledFiles true) told.files files tt refl leaves)
          ∙ split file.unsynced (λ e. by_unsynced e) (λ e. by_synced e)
        where
          reads : Option (List ℕ)
          reads = file_at name told.files

          by_unsynced : file.unsynced ≡ true → changed_file name reads (settled told.disk) ≡ cond file.unsynced file (unchanged name reads)
          by_unsynced e =
              settled_stays name reads told.disk (ap (λ (f : ChangedFile). f.unsynced) left ∙ e) ∙ left
              ∙ sym (ap (λ (b : Bool). cond b file (unchanged name reads)) e)

          by_synced : file.unsynced ≡ false → changed_file name reads (settled told.disk) ≡ cond file.unsynced file (unchanged name reads)
          by_synced e =
              settled_goes name reads told.disk (ap (λ (f : ChangedFile). f.unsynced) left ∙ e) ∙ sym (ap (λ (b : Bool). cond b file (unchanged name reads)) e)

      -- each call, by what its renaming makes of it
      pub chosen_by : (call : StoreCall) (files : List StoreFile) (aside : Option (List ℕ)) → IsApart name call → LeavesFiles call told.files files
          → ((other : List ℕ) (done : Bool) → call ≡ RenamedAside other done → is_name name other ≡ true
          → left_of name (store_answered call files told) ≡ with_aside aside (not done && file.unsynced) file)
          → left_of name (store_answered call files told) ≡ choices_after name call (file_at name told.files) aside file
      chosen_by (ListedAsides names) files aside apart leaves put = left_apart (ListedAsides names) files tt refl refl leaves ∙ left
      chosen_by (ReadFile other reading) files aside apart leaves put = left_apart (ReadFile other reading) files tt refl refl leaves ∙ left
      chosen_by (WroteAside other bytes done) files aside apart leaves put = left_apart (WroteAside other bytes done) files apart refl refl leaves ∙ left
      chosen_by (SyncedAside other done) files aside apart leaves put = left_apart (SyncedAside other done) files apart refl refl leaves ∙ left
      chosen_by (RenamedAside other done) files aside apart leaves put =
          split (is_name name other) (λ e. rw e (put other done refl e)) (λ e. rw e (left_apart (RenamedAside other done) files apart e refl leaves ∙ left))
      chosen_by (RemovedFile other done) files aside apart leaves put =
          split (is_name name other) (λ e. rw e (removed_here other done files e))
          (λ e. rw e (left_apart (RemovedFile other done) files tt e refl leaves ∙ left))
      chosen_by (SettledFiles true) files aside apart leaves put = settled_here files leaves
      chosen_by (SettledFiles false) files aside apart leaves put = left_apart (SettledFiles false) files tt refl refl leaves ∙ left

    -- a call that changes another file leaves nothing more of it
    module _ (sound : IsSound told) where
      settled_stays_so : (files : List StoreFile) → LeavesFiles (SettledFiles true) told.files files
          → Stays name told (store_answered (SettledFiles true) files told)
      settled_stays_so files leaves content may =
          by (left_of name told).unsynced refl (subst (λ (f : ChangedFile). MayBe f content) (settled_here (left_of name told) refl files leaves) may)
        where
          alone : MayBe (unchanged name (file_at name told.files)) content → MayLeave told name content
          alone (inl torn) = cc
          alone (inr (inl is)) = subst (MayLeave told name) (sym is) (sound.knows name).reads_so
          alone (inr (inr none)) = absurd none

          by : (u : Bool) → (left_of name told).unsynced ≡ u → MayBe (cond u (left_of name told) (unchanged name (file_at name told.files))) content
              → MayLeave told name content
          by true e now = now
          by false e now = alone now

      same_stays : (call : StoreCall) (files : List StoreFile) → IsApart name call → changes name call ≡ false → is_settling call ≡ false
          → LeavesFiles call told.files files
          → Stays name told (store_answered call files told)
      same_stays call files apart unlike going leaves content may =
          subst (λ (f : ChangedFile). MayBe f content) (left_apart call files apart unlike going leaves) may

      pub stays_apart : (call : StoreCall) (files : List StoreFile) → IsApart name call → changes name call ≡ false → LeavesFiles call told.files files
          → Stays name told (store_answered call files told)
      stays_apart (ListedAsides names) files apart unlike leaves = same_stays (ListedAsides names) files apart unlike refl leaves
      stays_apart (ReadFile other reading) files apart unlike leaves = same_stays (ReadFile other reading) files apart unlike refl leaves
      stays_apart (WroteAside other bytes done) files apart unlike leaves = same_stays (WroteAside other bytes done) files apart unlike refl leaves
      stays_apart (SyncedAside other done) files apart unlike leaves = same_stays (SyncedAside other done) files apart unlike refl leaves
      stays_apart (RenamedAside other done) files apart unlike leaves = same_stays (RenamedAside other done) files apart unlike refl leaves
      stays_apart (RemovedFile other done) files apart unlike leaves = same_stays (RemovedFile other done) files apart unlike refl leaves
      stays_apart (SettledFiles true) files apart unlike leaves = settled_stays_so files leaves
      stays_apart (SettledFiles false) files apart unlike leaves = same_stays (SettledFiles false) files apart unlike refl leaves

-- ---- asides

pub aside_written : (told : StoreTold) (name bytes : List ℕ) (files : List StoreFile) → LeavesFiles (WroteAside name bytes true) told.files files
    → file_at (aside_of name) files ≡ Some bytes
aside_written told name bytes files leaves =
    ap (file_at (aside_of name)) (done_files (WroteAside name bytes true) told.files files refl leaves) ∙ file_found (aside_of name) bytes told.files

pub sync_files : (told : StoreTold) (name : List ℕ) (done : Bool) (files : List StoreFile) → LeavesFiles (SyncedAside name done) told.files files
    → files ≡ told.files
sync_files told name done files (inl is) = is
sync_files told name done files (inr (failed, inl kept)) = kept
sync_files told name done files (inr (failed, inr kept)) = kept

-- an aside that was synced is as it reads
pub aside_synced : (told : StoreTold) (name bytes : List ℕ) → file_at (aside_of name) told.files ≡ Some bytes → (r : Option (List ℕ))
    → changed_file (aside_of name) r (synced (aside_of name) (file_at (aside_of name) told.files) told.disk) ≡ unchanged (aside_of name) r
aside_synced told name bytes there r =
    subst (λ (o : Option (List ℕ)). changed_file (aside_of name) r (synced (aside_of name) o told.disk) ≡ unchanged (aside_of name) r) (sym there)
    (filter_goes changed_name (λ f. f) (unchanged (aside_of name) r) (aside_of name) (λ f. not (is_name (aside_of name) f.name))
    (λ x here. ap not here) told.disk)
