-- What a crash may leave of each file after each front of calls in their turn, whatever they are answered.
use Rattle.std.specs.Prelude.{ℕ, ◌≡◌, ◌≤◌, ◌⊎◌, Bool, true, false, List, [], ◌∷◌, length, take, Option, Some, None, IfSome, if◌then◌else◌}
use Rattle.std.specs.List.{AllByRecursion}
use Rattle.world.specs.FileNames.{aside_of, is_name}
use Rattle.world.specs.FileLists.{file_at, is_aside}
use Rattle.world.specs.CrashImages.{ChangedFile, changed_file, IsAmong, MayBe}
use Rattle.world.specs.SoundStores.{IsSound}
use Rattle.world.specs.StoreFails.{StoreFails}
use Rattle.world.specs.StoreCalls.{StoreCall, StoreTold, ListedAsides, ReadFile, WroteAside, SyncedAside, RenamedAside, RemovedFile, SettledFiles}
use Rattle.file_choices.specs.StoreWalks.{Goes, Answered}
use Rattle.file_choices.specs.Choices.{Chosen, chosen_at, Chooses}
use Rattle.file_choices.specs.Savings.{Idle, is_kept, AreInTurn}

-- what a crash may leave of a file
abbrev pub left_of : (name : List ℕ) → StoreTold → ChangedFile
left_of name told = changed_file name (file_at name told.files) told.disk

-- A crash may leave this content of a file; nothing stands for no such file. An image has one of these for each name.
abbrev pub MayLeave : StoreTold → (name : List ℕ) → (content : Option (List ℕ)) → Type 0
MayLeave told name content = MayBe (left_of name told) content

-- a file of which a crash leaves nothing that it might not have left before
abbrev pub Stays : (name : List ℕ) → StoreTold → StoreTold → Type 0
Stays name before after = (left : Option (List ℕ)) → MayLeave after name left → MayLeave before name left

-- where it is known what a file reads as, it reads so
abbrev pub ReadsSo : Option (Option (List ℕ)) → (reads : Option (List ℕ)) → Type 0
ReadsSo None reads = Unit {0}
ReadsSo (Some content) reads = reads ≡ content

-- A crash may leave of the file what its choices are, and nothing else.
pub record LeavesChosen (failing : Option StoreFails) (name : List ℕ) (calls : List StoreCall)
    (before after : StoreTold) : Type 0 where
  pub chosen : Chosen
  pub chooses : Chooses failing name calls (chosen_at name before) chosen
  pub told : chosen.told ≡ after
  pub left : left_of name after ≡ chosen.file
  pub reads : ReadsSo chosen.reads (file_at name after.files)

-- a call that doesn't write, sync or put in place the file of a name as an aside
abbrev pub IsApart : (name : List ℕ) → StoreCall → Type 0
IsApart name (ListedAsides names) = Unit {0}
IsApart name (ReadFile other reading) = Unit {0}
IsApart name (WroteAside other bytes done) = is_name name (aside_of other) ≡ false
IsApart name (SyncedAside other done) = is_name name (aside_of other) ≡ false
IsApart name (RenamedAside other done) = is_name name (aside_of other) ≡ false
IsApart name (RemovedFile other done) = Unit {0}
IsApart name (SettledFiles done) = Unit {0}

-- whether a call puts the file of a name in place, or removes it
abbrev pub changes : (name : List ℕ) → StoreCall → Bool
changes name (RenamedAside other done) = is_name name other
changes name (RemovedFile other done) = is_name name other
changes name call = false

-- the contents that calls give to the file of a name: the texts that are written for it, and "no file" where it is
-- removed
abbrev pub given_by : (name : List ℕ) → List StoreCall → List (Option (List ℕ))
given_by name [] = []
given_by name (WroteAside other bytes done ∷ calls) =
    if is_name name other then Some bytes ∷ given_by name calls else given_by name calls
given_by name (RemovedFile other done ∷ calls) =
    if is_name name other then None ∷ given_by name calls else given_by name calls
given_by name (call ∷ calls) = given_by name calls

-- The file wasn't changed, nor is more left of it.
pub record IsUntouched (name : List ℕ) (before after : StoreTold) : Type 0 where
  pub reads : file_at name after.files ≡ file_at name before.files
  pub stays : Stays name before after

-- Of a file a crash leaves one of its choices, whole: at most two where no call failed since a settling that left it as
-- it reads. A file that isn't kept is as before.
pub record IsLeftWhole (failing : Option StoreFails) (names : List (List ℕ)) (name : List ℕ) (calls : List StoreCall)
    (before after : StoreTold) : Type 0 where
  pub leaves : LeavesChosen failing name calls before after
  pub few : leaves.chosen.calm ≡ true → (leaves.chosen.file.torn ≡ false) × (length leaves.chosen.file.contents ≤ 2)
  pub others : is_kept names name ≡ false → IsUntouched name before after

-- so each that is no aside
abbrev pub EachIsWhole : Option StoreFails → (names : List (List ℕ)) → List StoreCall → StoreTold → StoreTold → Type 0
EachIsWhole failing names calls before after =
    (name : List ℕ) → is_aside name ≡ false → IsLeftWhole failing names name calls before after

-- at each moment of these calls, over a sound store
abbrev pub StayWhole : Option StoreFails → (names : List (List ℕ)) → List StoreCall → StoreTold → Type 0
StayWhole failing names calls before =
    IsSound before → (made : ℕ) (after : StoreTold) → Goes failing (take made calls) before after
    → EachIsWhole failing names (take made calls) before after

-- some calls were made, at each moment of which the files were whole
pub record LeavesWhole (failing : Option StoreFails) (names : List (List ℕ)) (old new : Option StoreTold) : Type 0 where
  pub calls : List StoreCall
  pub answered : Answered failing calls old new
  pub whole : IfSome old (λ before. StayWhole failing names calls before)

-- ---- the laws

abbrev pub CallsInTurnLeaveChoices : Type 0
CallsInTurnLeaveChoices =
    (failing : Option StoreFails) (names : List (List ℕ)) (name : List ℕ) (calls : List StoreCall)
    (before after : StoreTold)
    → AreInTurn names calls Idle → AllByRecursion (IsApart name) calls → IsSound before → (made : ℕ)
    → Goes failing (take made calls) before after
    → LeavesChosen failing name (take made calls) before after

-- nothing else is left of it than what might have been left before, and what these calls give
abbrev pub OnlyGivenIsLeft : Type 0
OnlyGivenIsLeft =
    (failing : Option StoreFails) (names : List (List ℕ)) (name : List ℕ) (calls : List StoreCall)
    (before after : StoreTold)
    → AreInTurn names calls Idle → AllByRecursion (IsApart name) calls → IsSound before → (made : ℕ)
    → Goes failing (take made calls) before after
    → (content : Option (List ℕ)) → MayLeave after name content
    → MayLeave before name content ⊎ IsAmong content (given_by name calls)

abbrev pub SparedIsUntouched : Type 0
SparedIsUntouched = (failing : Option StoreFails) (name : List ℕ) (calls : List StoreCall) (before after : StoreTold)
    → AllByRecursion (λ call. IsApart name call × (changes name call ≡ false)) calls → IsSound before → (made : ℕ)
    → Goes failing (take made calls) before after
    → IsUntouched name before after

abbrev pub CallsInTurnStayWhole : Type 0
CallsInTurnStayWhole =
    (failing : Option StoreFails) (names : List (List ℕ)) (calls : List StoreCall) (before : StoreTold)
    → AreInTurn names calls Idle
    → StayWhole failing names calls before
