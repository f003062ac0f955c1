-- What is left of a file was left before, or was given to it by the calls.
use Rattle.std.proofs.Common.{◌≡◌, ℕ, zero, suc, Bool, true, false, not, ◌||◌, ◌&&◌, ◌⊎◌, inl, inr, List, [], ◌∷◌, take, Option, Some, None, refl, sym, subst, ◌∙◌, cond}
use Rattle.std.specs.List.{AllByRecursion}
use Rattle.world.proofs.NetTypes.CaseLaws.{split}
use Rattle.world.specs.FileNames.{aside_of, is_name}
use Rattle.world.specs.FileLists.{StoreFile, is_aside}
use Rattle.world.specs.CrashImages.{ChangedFile, IsAmong, MayBe}
use Rattle.world.specs.DiskChanges.{with_content}
use Rattle.world.specs.StoreFails.{StoreFails}
use Rattle.world.specs.StoreCalls.{StoreTold, StoreCall, ListedAsides, ReadFile, WroteAside, SyncedAside, RenamedAside, RemovedFile, SettledFiles, store_answered}
use Rattle.world.specs.SoundStores.{IsSound, LeavesFiles}
use Rattle.world.proofs.NameOrder.{same_name}
use Rattle.world.proofs.SoundLaws.{sound_after}
use Rattle.file_choices.specs.StoreWalks.{Goes}
use Rattle.file_choices.specs.Choices.{Chosen, chosen_at, chosen_after}
use Rattle.file_choices.specs.Savings.{Saving, Idle, Written, Synced, Put, saving_after, MayCome, AreInTurn}
use Rattle.file_choices.specs.LeftWhole.{left_of, MayLeave, changes, given_by, IsApart, IsUntouched, OnlyGivenIsLeft, SparedIsUntouched}
use Rattle.file_choices.proofs.FileWalks.{leaves_files, reads_stay, stays_apart, removed_here, renamed_here}
use Rattle.file_choices.proofs.Choosing.{Stands, stands_next, true_listing}

module _ (names : List (List ℕ)) (name : List ℕ) (Given : Option (List ℕ) → Type 0) where
  -- a call that gives the file such contents alone
  abbrev pub Gives : StoreCall → Type 0
  Gives (WroteAside other bytes done) = is_name name other ≡ true → Given (Some bytes)
  Gives (RemovedFile other done) = is_name name other ≡ true → Given None
  Gives (ListedAsides listed) = Unit {0}
  Gives (ReadFile other reading) = Unit {0}
  Gives (SyncedAside other done) = Unit {0}
  Gives (RenamedAside other done) = Unit {0}
  Gives (SettledFiles done) = Unit {0}

  -- the text that was written aside is such
  abbrev Held : Saving → Type 0
  Held Idle = Unit {0}
  Held (Written other bytes) = is_name name other ≡ true → Given (Some bytes)
  Held (Synced other bytes) = is_name name other ≡ true → Given (Some bytes)
  Held Put = Unit {0}

  held_synced : (other : List ℕ) (saving : Saving) → Held saving → Held (saving_after (SyncedAside other true) saving)
  held_synced other Idle held = tt
  held_synced other (Synced saved bytes) held = tt
  held_synced other Put held = tt
  held_synced other (Written saved bytes) held = by (is_name saved other)
    where
      by : (b : Bool) → Held (cond b (Synced saved bytes) Idle)
      by true = held
      by false = tt

  held_next : (call : StoreCall) (saving : Saving) → Gives call → Held saving → Held (saving_after call saving)
  held_next (ListedAsides listed) saving gives held = tt
  held_next (ReadFile other reading) saving gives held = tt
  held_next (WroteAside other bytes true) saving gives held = gives
  held_next (WroteAside other bytes false) saving gives held = tt
  held_next (SyncedAside other true) saving gives held = held_synced other saving held
  held_next (SyncedAside other false) saving gives held = tt
  held_next (RenamedAside other true) saving gives held = tt
  held_next (RenamedAside other false) saving gives held = tt
  held_next (RemovedFile other done) saving gives held = by (is_aside other) done
    where
      by : (aside d : Bool) → Held (cond aside Idle (cond d Put Idle))
      by true d = tt
      by false true = tt
      by false false = tt
  held_next (SettledFiles done) saving gives held = tt

  abbrev StaysOr : StoreTold → StoreTold → Type 0
  StaysOr before after = (content : Option (List ℕ)) → MayLeave after name content → MayLeave before name content ⊎ Given content

  -- where a change may leave any bytes, so might it before
  one_more : (told : StoreTold) (given : Option (List ℕ)) (done : Bool) → IsSound told → Given given → (content : Option (List ℕ))
      → MayBe (with_content given (not done && (left_of name told).unsynced) (left_of name told)) content → MayLeave told name content ⊎ Given content
  one_more told given done sound is content (inl torn) = inl (inl (by done (left_of name told).unsynced refl torn))
    where
      by : (d u : Bool) → (left_of name told).unsynced ≡ u → ((not d && u) || (left_of name told).torn) ≡ true → (left_of name told).torn ≡ true
      by true u e t = t
      by false true e t = (sound.knows name).torn_so e
      by false false e t = t
  one_more told given done sound is content (inr (inl same)) = inr (subst Given (sym same) is)
  one_more told given done sound is content (inr (inr among)) = inl (inr among)

  put_gives : (other : List ℕ) (done : Bool) (files : List StoreFile) (saving : Saving) (c : Chosen) → IsSound c.told
      → MayCome names (RenamedAside other done) saving
      → Stands names name saving c → Held saving → is_name name (aside_of other) ≡ false → is_name name other ≡ true
      → StaysOr c.told (store_answered (RenamedAside other done) files c.told)
  put_gives other done files Idle c sound may stands held apart here = absurd may.0
  put_gives other done files (Written saved bytes) c sound may stands held apart here = absurd may.0
  put_gives other done files Put c sound may stands held apart here = absurd may.0
  put_gives other done files (Synced saved bytes) c sound may stands held apart here =
      let same : saved ≡ other = same_name saved other may.0 in
      let is : Stands names name (Synced other bytes) c = subst (λ (n : List ℕ). Stands names name (Synced n bytes) c) same stands in
      λ content left. one_more c.told (Some bytes) done sound (held (subst (λ (n : List ℕ). is_name name n ≡ true) (sym same) here)) content
      (subst (λ (f : ChangedFile). MayBe f content) (renamed_here name c.told (left_of name c.told) refl other bytes done files here apart is.0.0 is.1) left)

  stays_or : (call : StoreCall) (files : List StoreFile) (c : Chosen) → IsSound c.told → IsApart name call → changes name call ≡ false
      → LeavesFiles call c.told.files files
      → StaysOr c.told (store_answered call files c.told)
  stays_or call files c sound apart unlike leaves content left = inl (stays_apart name c.told sound call files apart unlike leaves content left)

  call_gives : (call : StoreCall) (files : List StoreFile) (saving : Saving) (c : Chosen) → IsSound c.told → MayCome names call saving
      → Stands names name saving c → Held saving
      → IsApart name call → Gives call → LeavesFiles call c.told.files files → StaysOr c.told (store_answered call files c.told)
  call_gives (ListedAsides listed) files saving c sound may stands held apart gives leaves = stays_or (ListedAsides listed) files c sound apart refl leaves
  call_gives (ReadFile other reading) files saving c sound may stands held apart gives leaves =
      stays_or (ReadFile other reading) files c sound apart refl leaves
  call_gives (WroteAside other bytes done) files saving c sound may stands held apart gives leaves =
      stays_or (WroteAside other bytes done) files c sound apart refl leaves
  call_gives (SyncedAside other done) files saving c sound may stands held apart gives leaves =
      stays_or (SyncedAside other done) files c sound apart refl leaves
  call_gives (RenamedAside other done) files saving c sound may stands held apart gives leaves =
      split (is_name name other) (λ e. put_gives other done files saving c sound may stands held apart e)
      (λ e. stays_or (RenamedAside other done) files c sound apart e leaves)
  call_gives (RemovedFile other done) files saving c sound may stands held apart gives leaves =
      split (is_name name other)
      (λ e content left. one_more c.told None done sound (gives e) content
      (subst (λ (f : ChangedFile). MayBe f content) (removed_here name c.told (left_of name c.told) refl other done files e) left))
      (λ e. stays_or (RemovedFile other done) files c sound apart e leaves)
  call_gives (SettledFiles done) files saving c sound may stands held apart gives leaves = stays_or (SettledFiles done) files c sound apart refl leaves

  calls_give : (failing : Option StoreFails) (calls : List StoreCall) (saving : Saving) (c : Chosen) (after : StoreTold) (made : ℕ)
      → AreInTurn names calls saving
      → AllByRecursion (IsApart name) calls → AllByRecursion Gives calls → IsSound c.told → Stands names name saving c → Held saving
      → Goes failing (take made calls) c.told after
      → StaysOr c.told after
  calls_give failing [] saving c after zero turn apart gives sound stands held goes content left =
      inl (subst (λ (t : StoreTold). MayLeave t name content) goes left)
  calls_give failing [] saving c after (suc made) turn apart gives sound stands held goes content left =
      inl (subst (λ (t : StoreTold). MayLeave t name content) goes left)
  calls_give failing (call ∷ calls) saving c after zero turn apart gives sound stands held goes content left =
      inl (subst (λ (t : StoreTold). MayLeave t name content) goes left)
  calls_give failing (call ∷ calls) saving c after (suc made) turn apart gives sound stands held goes content left =
      by (calls_give failing calls (saving_after call saving) next after made now.1 apart.1 gives.1 (sound_after c.told sound call goes.0 leaves)
      (stands_next names name call goes.0 saving c stands leaves) (held_next call saving gives.0 held) goes.2 content left)
    where
      next : Chosen
      next = chosen_after name call goes.0 c

      leaves : LeavesFiles call c.told.files goes.0
      leaves = leaves_files failing call c.told.files goes.0 goes.1.leaves

      now : MayCome names call saving × AreInTurn names calls (saving_after call saving)
      now = turn (true_listing call c.told goes.1.truly)

      by : MayLeave next.told name content ⊎ Given content → MayLeave c.told name content ⊎ Given content
      by (inl was) = call_gives call goes.0 saving c sound now.0 stands held apart.0 gives.0 leaves content was
      by (inr given) = inr given

  pub left_or_given : (failing : Option StoreFails) (calls : List StoreCall) (before after : StoreTold) (made : ℕ) → AreInTurn names calls Idle
      → AllByRecursion (IsApart name) calls
      → AllByRecursion Gives calls → IsSound before → Goes failing (take made calls) before after → StaysOr before after
  left_or_given failing calls before after made turn apart gives sound goes =
      calls_give failing calls Idle (chosen_at name before) after made turn apart gives sound tt tt goes

-- so it is of all that the calls give
all_given : (names : List (List ℕ)) (name : List ℕ) (Given : Option (List ℕ) → Type 0) (calls : List StoreCall)
    → ((content : Option (List ℕ)) → IsAmong content (given_by name calls) → Given content)
    → AllByRecursion (Gives names name Given) calls
all_given names name Given [] is = tt
all_given names name Given (ListedAsides listed ∷ calls) is = (tt, all_given names name Given calls is)
all_given names name Given (ReadFile other reading ∷ calls) is = (tt, all_given names name Given calls is)
all_given names name Given (SyncedAside other done ∷ calls) is = (tt, all_given names name Given calls is)
all_given names name Given (RenamedAside other done ∷ calls) is = (tt, all_given names name Given calls is)
all_given names name Given (SettledFiles done ∷ calls) is = (tt, all_given names name Given calls is)
all_given names name Given (WroteAside other bytes done ∷ calls) is = by (is_name name other) (all_given names name Given calls) is
  where
    by : (b : Bool) → (((content : Option (List ℕ)) → IsAmong content (given_by name calls) → Given content) → AllByRecursion (Gives names name Given) calls)
        → ((content : Option (List ℕ)) → IsAmong content (cond b (Some bytes ∷ given_by name calls) (given_by name calls)) → Given content)
        → (b ≡ true → Given (Some bytes)) × AllByRecursion (Gives names name Given) calls
    by true rest each = (λ e. each (Some bytes) (inl refl), rest (λ content among. each content (inr among)))
    by false rest each = (λ e. absurd (let bad : false ≡ true = e in cc), rest each)
all_given names name Given (RemovedFile other done ∷ calls) is = by (is_name name other) (all_given names name Given calls) is
  where
    by : (b : Bool) → (((content : Option (List ℕ)) → IsAmong content (given_by name calls) → Given content) → AllByRecursion (Gives names name Given) calls)
        → ((content : Option (List ℕ)) → IsAmong content (cond b (None ∷ given_by name calls) (given_by name calls)) → Given content)
        → (b ≡ true → Given None) × AllByRecursion (Gives names name Given) calls
    by true rest each = (λ e. each None (inl refl), rest (λ content among. each content (inr among)))
    by false rest each = (λ e. absurd (let bad : false ≡ true = e in cc), rest each)

pub only_given : OnlyGivenIsLeft
only_given failing names name calls before after turn apart sound made goes =
    left_or_given names name (λ content. IsAmong content (given_by name calls)) failing calls before after made turn apart
    (all_given names name (λ content. IsAmong content (given_by name calls)) calls (λ content among. among)) sound goes

pub spared_untouched : SparedIsUntouched
spared_untouched failing name [] before after spares sound zero goes =
    subst (IsUntouched name before) (sym goes) (record { reads = refl; stays = λ content may. may })
spared_untouched failing name [] before after spares sound (suc made) goes =
    subst (IsUntouched name before) (sym goes) (record { reads = refl; stays = λ content may. may })
spared_untouched failing name (call ∷ calls) before after spares sound zero goes =
    subst (IsUntouched name before) (sym goes) (record { reads = refl; stays = λ content may. may })
spared_untouched failing name (call ∷ calls) before after spares sound (suc made) goes =
    let leaves : LeavesFiles call before.files goes.0 = leaves_files failing call before.files goes.0 goes.1.leaves in
    let rest =
    spared_untouched failing name calls (store_answered call goes.0 before) after spares.1 (sound_after before sound call goes.0 leaves) made goes.2 in
    record {
      reads = rest.reads ∙ reads_stay name call before.files goes.0 spares.0.0 spares.0.1 leaves;
      stays = λ content may. stays_apart name before sound call goes.0 spares.0.0 spares.0.1 leaves content (rest.stays content may);
    }
