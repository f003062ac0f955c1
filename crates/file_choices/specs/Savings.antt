-- Calls in their turn: an aside is put in place only right after it was written and synced, and what was put in place
-- or removed is settled before anything else is asked.
use Rattle.std.specs.Prelude.{ℕ, ◌≡◌, Bool, true, ◌||◌, List, [], ◌∷◌, Some, if◌then◌else◌}
use Rattle.std.specs.List.{AllByRecursion, list_any}
use Rattle.world.specs.FileNames.{is_name}
use Rattle.world.specs.FileLists.{is_aside}
use Rattle.world.specs.StoreCalls.{StoreCall, ListedAsides, ReadFile, WroteAside, SyncedAside, RenamedAside, RemovedFile, SettledFiles}

-- how far the saving or the removal of a file went: nothing of it stands, its aside was written, its aside was synced,
-- or it was put in place or removed
pub data Saving : Type 0 where
  Idle : Saving
  Written : (name bytes : List ℕ) → Saving
  Synced : (name bytes : List ℕ) → Saving
  Put : Saving

abbrev pub synced_by : (name : List ℕ) → Saving → Saving
synced_by name Idle = Idle
synced_by name (Written other bytes) = if is_name other name then Synced other bytes else Idle
synced_by name (Synced other bytes) = Idle
synced_by name Put = Idle

-- (asides that are removed may be settled together)
abbrev pub saving_after : StoreCall → Saving → Saving
saving_after (ListedAsides names) saving = Idle
saving_after (ReadFile name reading) saving = Idle
saving_after (WroteAside name bytes done) saving = if done then Written name bytes else Idle
saving_after (SyncedAside name done) saving = if done then synced_by name saving else Idle
saving_after (RenamedAside name done) saving = if done then Put else Idle
saving_after (RemovedFile name done) saving = if is_aside name then Idle else (if done then Put else Idle)
saving_after (SettledFiles done) saving = Idle

-- nothing is left to be settled
abbrev pub IsFree : Saving → Type 0
IsFree Idle = Unit {0}
IsFree (Written name bytes) = Unit {0}
IsFree (Synced name bytes) = Unit {0}
IsFree Put = ⊥

abbrev pub IsSyncedFor : (name : List ℕ) → Saving → Type 0
IsSyncedFor name Idle = ⊥
IsSyncedFor name (Written other bytes) = ⊥
IsSyncedFor name (Synced other bytes) = is_name other name ≡ true
IsSyncedFor name Put = ⊥

-- whether a name is one of those of the files that are kept
abbrev pub is_kept : (names : List (List ℕ)) → (name : List ℕ) → Bool
is_kept names name = list_any (is_name name) names

-- A call may come where this went before it. It puts in place, or removes, one of the files that are kept, or it
-- removes an aside.
abbrev pub MayCome : (names : List (List ℕ)) → StoreCall → Saving → Type 0
MayCome names (ListedAsides listed) saving = IsFree saving
MayCome names (ReadFile name reading) saving = IsFree saving
MayCome names (WroteAside name bytes done) saving = IsFree saving
MayCome names (SyncedAside name done) saving = IsFree saving
MayCome names (RenamedAside name done) saving = IsSyncedFor name saving × (is_kept names name ≡ true)
MayCome names (RemovedFile name done) saving = IsFree saving × ((is_aside name || is_kept names name) ≡ true)
MayCome names (SettledFiles done) saving = Unit {0}

-- a listing names asides alone
abbrev pub NamesAsides : StoreCall → Type 0
NamesAsides (ListedAsides (Some names)) = AllByRecursion (λ name. is_aside name ≡ true) names
NamesAsides call = Unit {0}

-- Each call comes in its turn, where the listings before it named asides alone.
abbrev pub AreInTurn : (names : List (List ℕ)) → List StoreCall → Saving → Type 0
AreInTurn names [] saving = Unit {0}
AreInTurn names (call ∷ calls) saving =
    NamesAsides call → MayCome names call saving × AreInTurn names calls (saving_after call saving)
