-- What a crash may leave of a file is what its choices are.
use Rattle.std.proofs.Common.{◌≡◌, ◌≤◌, ℕ, zero, suc, Bool, true, false, not, ◌||◌, ◌&&◌, List, [], ◌∷◌, take, length, map, Option, Some, None, refl, sym, ap, subst, ◌∙◌, cond, arith}
use Rattle.std.specs.Prelude.{codes, filter, drop, ◌++◌, ◌-◌, ◌+◌}
use Rattle.std.specs.List.{AllByRecursion}
use Rattle.std.proofs.Transfers.{drop-appended}
use Rattle.std.proofs.lemmas.List.{length-append}
use Rattle.world.proofs.NetTypes.CaseLaws.{split, gated}
use Rattle.world.specs.FileNames.{aside_of, is_name}
use Rattle.world.specs.FileLists.{StoreFile, file_name, file_at, put_file, drop_file, rename_file, is_aside}
use Rattle.world.specs.CrashImages.{ChangedFile, changed_file, unchanged}
use Rattle.world.specs.DiskChanges.{with_content, synced}
use Rattle.world.specs.StoreFails.{StoreFails}
use Rattle.world.specs.StoreCalls.{StoreTold, StoreCall, ListedAsides, ReadFile, WroteAside, SyncedAside, RenamedAside, RemovedFile, SettledFiles, store_answered}
use Rattle.world.specs.SoundStores.{IsSound, LeavesFiles}
use Rattle.world.proofs.NameOrder.{name_itself, same_name, unlike_name}
use Rattle.world.proofs.SoundCalls.{file_found, file_left, file_gone}
use Rattle.world.proofs.SoundLaws.{sound_after}
use Rattle.file_choices.specs.StoreWalks.{IsTrueOf, Goes}
use Rattle.file_choices.specs.Choices.{Chosen, chosen_at, chosen_after, with_aside, choices_after, reads_after, succeeded, is_alone, is_single, Chooses}
use Rattle.file_choices.specs.Savings.{Saving, Idle, Written, Synced, Put, synced_by, saving_after, IsFree, IsSyncedFor, is_kept, MayCome, NamesAsides, AreInTurn}
use Rattle.file_choices.specs.LeftWhole.{left_of, changes, ReadsSo, LeavesChosen, IsApart, IsUntouched, CallsInTurnLeaveChoices, CallsInTurnStayWhole}
use Rattle.file_choices.proofs.FileWalks.{leaves_files, done_files, reads_stay, stays_apart, renamed_here, chosen_by, aside_written, sync_files, aside_synced}

-- ---- names

pub apart_name : (name : List ℕ) → is_aside name ≡ false → (other : List ℕ) → is_name name (aside_of other) ≡ false
apart_name name plain other = unlike_name name (aside_of other) (λ same. let bad : true ≡ false = sym (aside_is other) ∙ ap is_aside (sym same) ∙ plain in cc)
  where
    aside_is : (n : List ℕ) → is_aside (aside_of n) ≡ true
    aside_is n =
        let long : length (n ++ codes ".new") ≡ length n + 4 = length-append n (codes ".new") in
        let less : length (n ++ codes ".new") - 4 ≡ length n = omega (arith, long) in
        ap (λ (k : ℕ). is_name (drop k (n ++ codes ".new")) (codes ".new")) less
        ∙ ap (λ (t : List ℕ). is_name t (codes ".new")) (drop-appended n (n ++ codes ".new") (codes ".new") refl)
        ∙ name_itself (codes ".new")

pub apart_calls : (name : List ℕ) → is_aside name ≡ false → (calls : List StoreCall) → AllByRecursion (IsApart name) calls
apart_calls name plain [] = tt
apart_calls name plain (call ∷ calls) = (by call, apart_calls name plain calls)
  where
    by : (call : StoreCall) → IsApart name call
    by (ListedAsides names) = tt
    by (ReadFile other reading) = tt
    by (WroteAside other bytes done) = apart_name name plain other
    by (SyncedAside other done) = apart_name name plain other
    by (RenamedAside other done) = apart_name name plain other
    by (RemovedFile other done) = tt
    by (SettledFiles done) = tt

picked : (names : List (List ℕ)) → AllByRecursion (λ name. is_aside name ≡ true) (filter is_aside names)
picked [] = tt
picked (name ∷ names) = by (is_aside name) refl (picked names)
  where
    by : (b : Bool) → is_aside name ≡ b → AllByRecursion (λ n. is_aside n ≡ true) (filter is_aside names)
        → AllByRecursion (λ n. is_aside n ≡ true) (cond b (name ∷ filter is_aside names) (filter is_aside names))
    by true e rest = (e, rest)
    by false e rest = rest

pub true_listing : (call : StoreCall) (told : StoreTold) → IsTrueOf call told → NamesAsides call
true_listing (ListedAsides None) told truly = tt
true_listing (ListedAsides (Some names)) told truly =
    subst (λ (ns : List (List ℕ)). AllByRecursion (λ name. is_aside name ≡ true) ns) (sym truly) (picked (map file_name told.files))
true_listing (ReadFile name reading) told truly = tt
true_listing (WroteAside name bytes done) told truly = tt
true_listing (SyncedAside name done) told truly = tt
true_listing (RenamedAside name done) told truly = tt
true_listing (RemovedFile name done) told truly = tt
true_listing (SettledFiles done) told truly = tt

second : (a b : Bool) → (a && b) ≡ true → b ≡ true
second true b e = e
second false b e = cc

module _ (names : List (List ℕ)) (name : List ℕ) where
  -- ---- what is known of the file whose saving stands so

  abbrev IsWritten : (other bytes : List ℕ) → Chosen → Type 0
  IsWritten other bytes c = (file_at (aside_of other) c.told.files ≡ Some bytes) × (is_name name other ≡ true → c.aside ≡ Some bytes)

  abbrev pub Stands : Saving → Chosen → Type 0
  Stands Idle c = Unit {0}
  Stands (Written other bytes) c = IsWritten other bytes c
  Stands (Synced other bytes) c = IsWritten other bytes c × ((left_of (aside_of other) c.told).unsynced ≡ false)
  Stands Put c = Unit {0}

  stands_written : (other bytes : List ℕ) (done : Bool) (files : List StoreFile) (c : Chosen) → LeavesFiles (WroteAside other bytes done) c.told.files files
      → Stands (saving_after (WroteAside other bytes done) Idle) (chosen_after name (WroteAside other bytes done) files c)
  stands_written other bytes true files c leaves = (aside_written c.told other bytes files leaves, λ e. ap (λ (b : Bool). cond b (Some bytes) c.aside) e)
  stands_written other bytes false files c leaves = tt

  stands_synced : (other : List ℕ) (done : Bool) (files : List StoreFile) (saving : Saving) (c : Chosen) → Stands saving c
      → LeavesFiles (SyncedAside other done) c.told.files files
      → Stands (saving_after (SyncedAside other done) saving) (chosen_after name (SyncedAside other done) files c)
  stands_synced other false files saving c stands leaves = tt
  stands_synced other true files Idle c stands leaves = tt
  stands_synced other true files (Synced saved bytes) c stands leaves = tt
  stands_synced other true files Put c stands leaves = tt
  stands_synced other true files (Written saved bytes) c stands leaves = by (is_name saved other) refl
    where
      by : (b : Bool) → is_name saved other ≡ b → Stands (cond b (Synced saved bytes) Idle) (chosen_after name (SyncedAside other true) files c)
      by false e = tt
      by true e =
          let same : saved ≡ other = same_name saved other e in
          let kept : files ≡ c.told.files = sync_files c.told other true files leaves in
          let there : file_at (aside_of other) c.told.files ≡ Some bytes = ap (λ (n : List ℕ). file_at (aside_of n) c.told.files) (sym same) ∙ stands.0 in (
            (ap (file_at (aside_of saved)) kept ∙ stands.0, stands.1),
            ap
                (λ (n : List ℕ).
                (changed_file (aside_of n) (file_at (aside_of n) files)
                (synced (aside_of other) (file_at (aside_of other) c.told.files) c.told.disk)).unsynced)
                same
                ∙ ap (λ (f : ChangedFile). f.unsynced) (aside_synced c.told other bytes there (file_at (aside_of other) files)),
          )

  pub stands_next : (call : StoreCall) (files : List StoreFile) (saving : Saving) (c : Chosen) → Stands saving c → LeavesFiles call c.told.files files
      → Stands (saving_after call saving) (chosen_after name call files c)
  stands_next (ListedAsides listed) files saving c stands leaves = tt
  stands_next (ReadFile other reading) files saving c stands leaves = tt
  stands_next (WroteAside other bytes true) files saving c stands leaves = stands_written other bytes true files c leaves
  stands_next (WroteAside other bytes false) files saving c stands leaves = tt
  stands_next (SyncedAside other done) files saving c stands leaves = stands_synced other done files saving c stands leaves
  stands_next (RenamedAside other true) files saving c stands leaves = tt
  stands_next (RenamedAside other false) files saving c stands leaves = tt
  stands_next (RemovedFile other done) files saving c stands leaves = by (is_aside other) done
    where
      by : (aside d : Bool) → Stands (cond aside Idle (cond d Put Idle)) (chosen_after name (RemovedFile other done) files c)
      by true d = tt
      by false true = tt
      by false false = tt
  stands_next (SettledFiles done) files saving c stands leaves = tt

  -- a renaming puts the synced aside in place
  put_by : (other : List ℕ) (done : Bool) (files : List StoreFile) (saving : Saving) (c : Chosen) → MayCome names (RenamedAside other done) saving
      → Stands saving c
      → is_name name (aside_of other) ≡ false → left_of name c.told ≡ c.file → is_name name other ≡ true
      → left_of name (store_answered (RenamedAside other done) files c.told) ≡ with_aside c.aside (not done && c.file.unsynced) c.file
  put_by other done files Idle c may stands apart left here = absurd may.0
  put_by other done files (Written saved bytes) c may stands apart left here = absurd may.0
  put_by other done files Put c may stands apart left here = absurd may.0
  put_by other done files (Synced saved bytes) c may stands apart left here =
      let is : Stands (Synced other bytes) c = subst (λ (n : List ℕ). Stands (Synced n bytes) c) (same_name saved other may.0) stands in
      renamed_here name c.told c.file left other bytes done files here apart is.0.0 is.1
      ∙ ap (λ (o : Option (List ℕ)). with_aside o (not done && c.file.unsynced) c.file) (sym (is.0.1 here))

  left_next : (call : StoreCall) (files : List StoreFile) (saving : Saving) (c : Chosen) → MayCome names call saving → Stands saving c → IsApart name call
      → left_of name c.told ≡ c.file → LeavesFiles call c.told.files files
      → left_of name (store_answered call files c.told) ≡ choices_after name call (file_at name c.told.files) c.aside c.file
  left_next call files saving c may stands apart left leaves =
      chosen_by name c.told c.file left call files c.aside apart leaves by
    where
      by : (other : List ℕ) (done : Bool) → call ≡ RenamedAside other done → is_name name other ≡ true
          → left_of name (store_answered call files c.told) ≡ with_aside c.aside (not done && c.file.unsynced) c.file
      by other done is here =
          subst (λ (k : StoreCall). left_of name (store_answered k files c.told) ≡ with_aside c.aside (not done && c.file.unsynced) c.file) (sym is)
          (put_by other done files saving c (subst (λ (k : StoreCall). MayCome names k saving) is may) stands (subst (IsApart name) is apart) left here)

  -- ---- what the file reads as

  reads_same : (call : StoreCall) (aside : Option (List ℕ)) (reads : Option (Option (List ℕ))) → changes name call ≡ false
      → reads_after name call aside reads ≡ reads
  reads_same (ListedAsides listed) aside reads other = refl
  reads_same (ReadFile n reading) aside reads other = refl
  reads_same (WroteAside n bytes done) aside reads other = refl
  reads_same (SyncedAside n done) aside reads other = refl
  reads_same (RenamedAside n done) aside reads other = rw other refl
  reads_same (RemovedFile n done) aside reads other = rw other refl
  reads_same (SettledFiles done) aside reads other = refl

  abbrev Reads : Chosen → Type 0
  Reads c = ReadsSo c.reads (file_at name c.told.files)

  reads_apart : (call : StoreCall) (files : List StoreFile) (c : Chosen) → IsApart name call → changes name call ≡ false → LeavesFiles call c.told.files files
      → Reads c
      → Reads (chosen_after name call files c)
  reads_apart call files c apart other leaves reads =
      subst (λ (r : Option (Option (List ℕ))). ReadsSo r (file_at name files)) (sym (reads_same call c.aside c.reads other))
      (subst (ReadsSo c.reads) (sym (reads_stay name call c.told.files files apart other leaves)) reads)

  -- a synced aside was put in place
  reads_put : (other : List ℕ) (done : Bool) (files : List StoreFile) (saving : Saving) (c : Chosen) → MayCome names (RenamedAside other done) saving
      → Stands saving c
      → is_name name (aside_of other) ≡ false → is_name name other ≡ true → LeavesFiles (RenamedAside other done) c.told.files files
      → ReadsSo (cond done (Some c.aside) None) (file_at name files)
  reads_put other false files saving c may stands apart here leaves = tt
  reads_put other true files Idle c may stands apart here leaves = absurd may.0
  reads_put other true files (Written saved bytes) c may stands apart here leaves = absurd may.0
  reads_put other true files Put c may stands apart here leaves = absurd may.0
  reads_put other true files (Synced saved bytes) c may stands apart here leaves =
      let is : Stands (Synced other bytes) c = subst (λ (n : List ℕ). Stands (Synced n bytes) c) (same_name saved other may.0) stands in
      ap (file_at name)
      (done_files (RenamedAside other true) c.told.files files refl leaves ∙ ap (λ (o : Option (List ℕ)). rename_file other o c.told.files) is.0.0)
      ∙ file_left (aside_of other) name (put_file (record { name = other; bytes = bytes }) c.told.files) apart
      ∙ ap (λ (n : List ℕ). file_at n (put_file (record { name = other; bytes = bytes }) c.told.files)) (same_name name other here)
      ∙ file_found other bytes c.told.files ∙ sym (is.0.1 here)

  reads_removed : (other : List ℕ) (done : Bool) (files : List StoreFile) (c : Chosen) → IsSound c.told → is_name name other ≡ true
      → LeavesFiles (RemovedFile other done) c.told.files files
      → ReadsSo (cond done (Some None) None) (file_at name files)
  reads_removed other false files c sound here leaves = tt
  reads_removed other true files c sound here leaves =
      ap (file_at name)
      (done_files (RemovedFile other true) c.told.files files refl leaves ∙ ap (λ (n : List ℕ). drop_file n c.told.files) (sym (same_name name other here)))
      ∙ file_gone name c.told.files sound.files_in_order

  reads_next : (call : StoreCall) (files : List StoreFile) (saving : Saving) (c : Chosen) → IsSound c.told → MayCome names call saving → Stands saving c
      → IsApart name call
      → LeavesFiles call c.told.files files → Reads c → Reads (chosen_after name call files c)
  reads_next (ListedAsides listed) files saving c sound may stands apart leaves reads = reads_apart (ListedAsides listed) files c tt refl leaves reads
  reads_next (ReadFile n reading) files saving c sound may stands apart leaves reads = reads_apart (ReadFile n reading) files c tt refl leaves reads
  reads_next (WroteAside n bytes done) files saving c sound may stands apart leaves reads =
      reads_apart (WroteAside n bytes done) files c apart refl leaves reads
  reads_next (SyncedAside n done) files saving c sound may stands apart leaves reads = reads_apart (SyncedAside n done) files c apart refl leaves reads
  reads_next (RenamedAside n done) files saving c sound may stands apart leaves reads =
      split (is_name name n) (λ e. rw e (reads_put n done files saving c may stands apart e leaves))
      (λ e. reads_apart (RenamedAside n done) files c apart e leaves reads)
  reads_next (RemovedFile n done) files saving c sound may stands apart leaves reads =
      split (is_name name n) (λ e. rw e (reads_removed n done files c sound e leaves)) (λ e. reads_apart (RemovedFile n done) files c tt e leaves reads)
  reads_next (SettledFiles done) files saving c sound may stands apart leaves reads = reads_apart (SettledFiles done) files c tt refl leaves reads

  -- ---- few choices

  abbrev room : Saving → ℕ
  room Put = 2
  room saving = 1

  abbrev HasFew : Saving → Chosen → Type 0
  HasFew saving c = c.calm ≡ true → (c.file.torn ≡ false) × (c.file.unsynced ≡ false) × (length c.file.contents ≤ room saving)

  abbrev IsFew : ℕ → ChangedFile → Type 0
  IsFew most file = (file.torn ≡ false) × (file.unsynced ≡ false) × (length file.contents ≤ most)

  few_wider : (file : ChangedFile) → IsFew 1 file → IsFew 2 file
  few_wider file few = (few.0, few.1, let short = few.2 in omega (arith, short))

  few_more : (content : Option (List ℕ)) (file : ChangedFile) → IsFew 1 file → IsFew 2 (with_content content false file)
  few_more content file few = (few.0, refl, let short = few.2 in omega (arith, short))

  few_aside : (aside : Option (List ℕ)) (file : ChangedFile) → IsFew 1 file → IsFew 2 (with_aside aside false file)
  few_aside None file few = few_wider file few
  few_aside (Some bytes) file few = few_more (Some bytes) file few

  free_few : (saving : Saving) (file : ChangedFile) → IsFree saving → IsFew (room saving) file → IsFew 1 file
  free_few Idle file free few = few
  free_few (Written other bytes) file free few = few
  free_few (Synced other bytes) file free few = few
  free_few Put file free few = absurd free

  synced_few : (other : List ℕ) (saving : Saving) (file : ChangedFile) → IsSyncedFor other saving → IsFew (room saving) file → IsFew 1 file
  synced_few other (Synced saved bytes) file synced few = few
  synced_few other Idle file synced few = absurd synced
  synced_few other (Written saved bytes) file synced few = absurd synced
  synced_few other Put file synced few = absurd synced

  few_room : (other : List ℕ) (saving : Saving) (file : ChangedFile) → IsFew 1 file → IsFew (room (synced_by other saving)) file
  few_room other Idle file few = few
  few_room other (Written saved bytes) file few = by (is_name saved other)
    where
      by : (b : Bool) → IsFew (room (cond b (Synced saved bytes) Idle)) file
      by true = few
      by false = few
  few_room other (Synced saved bytes) file few = few
  few_room other Put file few = few

  few_next : is_aside name ≡ false → (call : StoreCall) (files : List StoreFile) (saving : Saving) (c : Chosen) → MayCome names call saving → HasFew saving c
      → HasFew (saving_after call saving) (chosen_after name call files c)
  few_next plain (ListedAsides listed) files saving c may few is = free_few saving c.file may (few (second (succeeded (ListedAsides listed)) c.calm is))
  few_next plain (ReadFile other reading) files saving c may few is = free_few saving c.file may (few (second (succeeded (ReadFile other reading)) c.calm is))
  few_next plain (WroteAside other bytes true) files saving c may few is = free_few saving c.file may (few is)
  few_next plain (WroteAside other bytes false) files saving c may few is = cc
  few_next plain (SyncedAside other true) files saving c may few is = few_room other saving c.file (free_few saving c.file may (few is))
  few_next plain (SyncedAside other false) files saving c may few is = cc
  few_next plain (RenamedAside other true) files saving c may few is =
      let now : IsFew 1 c.file = synced_few other saving c.file may.0 (few is) in
      gated (IsFew 2) (is_name name other) (with_aside c.aside false c.file) c.file (few_aside c.aside c.file now) (few_wider c.file now)
  few_next plain (RenamedAside other false) files saving c may few is = cc
  few_next plain (RemovedFile other true) files saving c may few is = by (is_aside other) refl
    where
      taken : ChangedFile
      taken = cond (is_name name other) (with_content None false c.file) c.file

      now : IsFew 1 c.file
      now = free_few saving c.file may.0 (few is)

      other_stays : is_aside other ≡ true → (b : Bool) → is_name name other ≡ b → IsFew 1 (cond b (with_content None false c.file) c.file)
      other_stays aside false e = now
      other_stays aside true e = absurd (let bad : true ≡ false = sym aside ∙ ap is_aside (sym (same_name name other e)) ∙ plain in cc)

      by : (b : Bool) → is_aside other ≡ b → IsFew (room (cond b Idle Put)) taken
      by true e = other_stays e (is_name name other) refl
      by false e = gated (IsFew 2) (is_name name other) (with_content None false c.file) c.file (few_more None c.file now) (few_wider c.file now)
  few_next plain (RemovedFile other false) files saving c may few is = cc
  few_next plain (SettledFiles true) files saving c may few is = by c.file.unsynced is
    where
      by : (u : Bool) → not u ≡ true → IsFew 1 (cond u c.file (unchanged name (file_at name c.told.files)))
      by true e = cc
      by false e = (refl, refl, omega arith)
  few_next plain (SettledFiles false) files saving c may few is = cc

  -- ---- a file that isn't kept

  other_call : is_aside name ≡ false → is_kept names name ≡ false → (call : StoreCall) (saving : Saving) → MayCome names call saving → changes name call ≡ false
  other_call plain other (ListedAsides listed) saving may = refl
  other_call plain other (ReadFile n reading) saving may = refl
  other_call plain other (WroteAside n bytes done) saving may = refl
  other_call plain other (SyncedAside n done) saving may = refl
  other_call plain other (RenamedAside n done) saving may = by (is_name name n) refl
    where
      by : (b : Bool) → is_name name n ≡ b → b ≡ false
      by false e = refl
      by true e = absurd (let bad : true ≡ false = sym may.1 ∙ ap (is_kept names) (sym (same_name name n e)) ∙ other in cc)
  other_call plain other (RemovedFile n done) saving may = by (is_name name n) refl
    where
      by : (b : Bool) → is_name name n ≡ b → b ≡ false
      by false e = refl
      by true e =
          absurd
          (let bad : true ≡ false = sym may.1 ∙ ap (λ (m : List ℕ). is_aside m || is_kept names m) (sym (same_name name n e))
          ∙ ap (λ (b : Bool). b || is_kept names name) plain ∙ other in cc)
  other_call plain other (SettledFiles done) saving may = refl

  -- ---- one call after another

  module _ (failing : Option StoreFails) (start : StoreTold) where
    abbrev Others : Chosen → Type 0
    Others c = is_kept names name ≡ false → IsUntouched name start c.told

    record Holds (saving : Saving) (c : Chosen) : Type 0 where
      sound : IsSound c.told
      stands : Stands saving c
      left : left_of name c.told ≡ c.file
      reads : Reads c
      few : is_aside name ≡ false → HasFew saving c
      others : is_aside name ≡ false → Others c

    holds_next : (call : StoreCall) (files : List StoreFile) (saving : Saving) (c : Chosen) → MayCome names call saving → IsApart name call
        → LeavesFiles call c.told.files files
        → Holds saving c → Holds (saving_after call saving) (chosen_after name call files c)
    holds_next call files saving c may apart leaves h =
        let left = left_next call files saving c may h.stands apart h.left leaves in
        record {
          sound = sound_after c.told h.sound call files leaves;
          stands = stands_next call files saving c h.stands leaves;
          left = left;
          reads = reads_next call files saving c h.sound may h.stands apart leaves h.reads;
          few = λ plain. few_next plain call files saving c may (h.few plain);
          others = λ plain other.
              let was = h.others plain other in
              let unlike = other_call plain other call saving may in
              record {
                reads = reads_stay name call c.told.files files apart unlike leaves ∙ was.reads;
                stays = λ content now. was.stays content (stays_apart name c.told h.sound call files apart unlike leaves content now);
              };
        }

    record Gone (calls : List StoreCall) (c : Chosen) (after : StoreTold) : Type 0 where
      chosen : Chosen
      chooses : Chooses failing name calls c chosen
      told : chosen.told ≡ after
      saving : Saving
      holds : Holds saving chosen

    all_gone : (calls : List StoreCall) (saving : Saving) (c : Chosen) (after : StoreTold) (made : ℕ) → AreInTurn names calls saving
        → AllByRecursion (IsApart name) calls → Holds saving c
        → Goes failing (take made calls) c.told after → Gone (take made calls) c after
    all_gone [] saving c after zero turn apart h goes = record { chosen = c; chooses = refl; told = sym goes; saving = saving; holds = h }
    all_gone [] saving c after (suc made) turn apart h goes = record { chosen = c; chooses = refl; told = sym goes; saving = saving; holds = h }
    all_gone (call ∷ calls) saving c after zero turn apart h goes = record { chosen = c; chooses = refl; told = sym goes; saving = saving; holds = h }
    all_gone (call ∷ calls) saving c after (suc made) turn apart h goes =
        let files : List StoreFile = goes.0 in
        let leaves : LeavesFiles call c.told.files files = leaves_files failing call c.told.files files goes.1.leaves in
        let now = turn (true_listing call c.told goes.1.truly) in
        let rest =
        all_gone calls (saving_after call saving) (chosen_after name call files c) after made now.1 apart.1
        (holds_next call files saving c now.0 apart.0 leaves h) goes.2 in
        record { chosen = rest.chosen; chooses = (files, goes.1, rest.chooses); told = rest.told; saving = rest.saving; holds = rest.holds }

  -- ---- from an entry

  single_few : (file : ChangedFile) → is_single file ≡ true → IsFew 1 file
  single_few file is = by file.unsynced file.torn is
    where
      short : (contents : List (Option (List ℕ))) → is_alone contents ≡ true → length contents ≤ 1
      short [] e = omega arith
      short (content ∷ []) e = omega arith
      short (content ∷ other ∷ more) e = absurd (let bad : false ≡ true = e in cc)

      by : (u t : Bool) → (not u && (not t && is_alone file.contents)) ≡ true → (t ≡ false) × (u ≡ false) × (length file.contents ≤ 1)
      by true t e = cc
      by false true e = cc
      by false false e = (refl, refl, short file.contents e)

  holds_at : (failing : Option StoreFails) (start : StoreTold) → IsSound start → Holds failing start Idle (chosen_at name start)
  holds_at failing start sound = record {
    sound = sound;
    stands = tt;
    left = refl;
    reads = refl;
    few = λ plain is. single_few (left_of name start) is;
    others = λ plain other. record { reads = refl; stays = λ content may. may };
  }

  abbrev leaves_so : (failing : Option StoreFails) (start after : StoreTold) (calls : List StoreCall) → Gone failing start calls (chosen_at name start) after
      → LeavesChosen failing name calls start after
  leaves_so failing start after calls gone = record {
    chosen = gone.chosen;
    chooses = gone.chooses;
    told = gone.told;
    left = ap (left_of name) (sym gone.told) ∙ gone.holds.left;
    reads = subst (λ (t : StoreTold). ReadsSo gone.chosen.reads (file_at name t.files)) gone.told gone.holds.reads;
  }

pub leaves_choices : CallsInTurnLeaveChoices
leaves_choices failing names name calls before after turn apart sound made goes =
    leaves_so names name failing before after (take made calls)
    (all_gone names name failing before calls Idle (chosen_at name before) after made turn apart (holds_at names name failing before sound) goes)

few_plain : (names : List (List ℕ)) (name : List ℕ) (saving : Saving) (c : Chosen) → HasFew names name saving c → c.calm ≡ true
    → (c.file.torn ≡ false) × (length c.file.contents ≤ 2)
few_plain names name Put c few is = let f = few is in (f.0, f.2)
few_plain names name Idle c few is = let f = few is in (f.0, let short = f.2 in omega (arith, short))
few_plain names name (Written other bytes) c few is = let f = few is in (f.0, let short = f.2 in omega (arith, short))
few_plain names name (Synced other bytes) c few is = let f = few is in (f.0, let short = f.2 in omega (arith, short))

pub stay_whole : CallsInTurnStayWhole
stay_whole failing names calls before turn sound made after goes name plain =
    let gone =
    all_gone names name failing before calls Idle (chosen_at name before) after made turn (apart_calls name plain calls)
    (holds_at names name failing before sound) goes in
    record {
      leaves = leaves_so names name failing before after (take made calls) gone;
      few = few_plain names name gone.saving gone.chosen (gone.holds.few plain);
      others = λ other. subst (λ (t : StoreTold). IsUntouched name before t) gone.told (gone.holds.others plain other);
    }
