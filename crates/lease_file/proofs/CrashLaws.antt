-- What a crash may leave after the calls of a saving, a removal and a clearing.
use Rattle.std.proofs.Common.{◌≡◌, ◌||◌, ℕ, Bool, true, false, inl, inr, List, [], ◌∷◌, ◌++◌, take, length, map, String, append-nil, Option, Some, None, Result, Ok, Err, refl, sym, ap, subst, ◌∙◌, cond}
use Rattle.std.specs.Prelude.{IfErr, IfOk, IfSome}
use Rattle.std.specs.Global.{Global}
use Rattle.std.specs.List.{AllByRecursion}
use Rattle.std.specs.String.{string_bytes}
use Rattle.std.proofs.lemmas.List.{map-append}
use Rattle.net_types.proofs.AllLaws.{all_join, all_map}
use Rattle.world.specs.FileNames.{aside_of, is_name}
use Rattle.world.specs.FileLists.{StoreFile, file_at, put_file, rename_file, is_aside}
use Rattle.world.specs.CrashImages.{ChangedFile, unchanged, MayBe}
use Rattle.world.specs.StoreFails.{StoreFails}
use Rattle.world.specs.StoreCalls.{StoreTold, StoreCall, ListedAsides, ReadFile, WroteAside, SyncedAside, RenamedAside, RemovedFile, SettledFiles, store_answered}
use Rattle.world.specs.SoundStores.{IsSound, LeavesFiles}
use Rattle.world.proofs.NameOrder.{name_itself, unlike_aside, unlike_name}
use Rattle.world.proofs.SoundCalls.{file_found, file_left, file_gone}
use Rattle.file_choices.specs.StoreWalks.{Goes, Answered}
use Rattle.file_choices.specs.Savings.{Idle, Synced, Put, IsSyncedFor, MayCome, AreInTurn}
use Rattle.file_choices.specs.LeftWhole.{left_of, IsApart, changes, StayWhole, LeavesWhole}
use Rattle.file_choices.proofs.Walking.{answered_more, front_in_turn, all_taken}
use Rattle.file_choices.proofs.FileWalks.{leaves_files, done_files, aside_written, sync_files, aside_synced, removed_here, renamed_here, settled_here}
use Rattle.file_choices.proofs.Choosing.{stay_whole}
use Rattle.file_choices.proofs.Given.{Gives, left_or_given, spared_untouched}
use Rattle.lease_file.specs.declared.clearing.Cleared.{Cleared}
use Rattle.lease_file.specs.declared.clearing.Clearing.{Clearing}
use Rattle.lease_file.specs.declared.faults.SaveStep.{SaveStep}
use Rattle.lease_file.specs.declared.faults.SaveStep.TheVariants as step
use Rattle.lease_file.specs.declared.faults.SaveFault.{SaveFault}
use Rattle.lease_file.specs.declared.faults.SaveFault.TheVariants.{Failed, NoMemory}
use Rattle.lease_file.specs.AsideCalls.{listing_calls, removal_calls, settling_calls, cleared_calls, BeginsListing, BeginsRemovals}
use Rattle.lease_file.proofs.Removals.{named_bytes}
use Rattle.lease_file.specs.FileLaws.{SavingIsWhole, RemovingIsWhole, OthersStay}
use Rattle.lease_file.specs.Saving.{save_calls, save_calls_to, Saves, remove_calls, remove_calls_to, Removes}
use Rattle.lease_file.specs.WholeFiles.{IsLeft, KeepsWhole, KeepsOrRemoves, IsOfAsides, ClearsAsides}

abbrev Spares : (name : List ℕ) → StoreCall → Type 0
Spares name call = IsApart name call × (changes name call ≡ false)

or_second : (a b : Bool) → b ≡ true → (a || b) ≡ true
or_second true b e = refl
or_second false b e = e

-- what is left of a file that was put in place or removed, and settled, is what it reads as
settled_alone : (name : List ℕ) (told : StoreTold) (files : List StoreFile) (content : Option (List ℕ)) → (left_of name told).unsynced ≡ false
    → file_at name told.files ≡ content → LeavesFiles (SettledFiles true) told.files files → IsLeft name content (store_answered (SettledFiles true) files told)
settled_alone name told files content synced reads leaves left may =
    by (subst (λ (f : ChangedFile). MayBe f left)
    (settled_here name told (left_of name told) refl files leaves
    ∙ ap (λ (b : Bool). cond b (left_of name told) (unchanged name (file_at name told.files))) synced)
    may)
  where
    by : MayBe (unchanged name (file_at name told.files)) left → left ≡ content
    by (inl torn) = cc
    by (inr (inl is)) = is ∙ reads
    by (inr (inr none)) = absurd none

-- ---- saving

module _ (name bytes : List ℕ) where
  abbrev kept : List (List ℕ)
  kept = name ∷ []

  abbrev Wanted : Option (List ℕ) → Type 0
  Wanted content = content ≡ Some bytes

  -- calls that are made to save the file
  record IsSaving (calls : List StoreCall) : Type 0 where
    turn : AreInTurn kept calls Idle
    apart : AllByRecursion (IsApart name) calls
    gives : AllByRecursion (Gives kept name Wanted) calls
    spares : (other : List ℕ) → is_name other name ≡ false → is_name other (aside_of name) ≡ false → AllByRecursion (Spares other) calls

  rename_may : (done : Bool) → MayCome kept (RenamedAside name done) (cond (is_name name name) (Synced name bytes) Idle)
  rename_may done = (
    subst (IsSyncedFor name) (sym (ap (λ (b : Bool). cond b (Synced name bytes) Idle) (name_itself name))) (name_itself name),
    ap (λ (b : Bool). b || false) (name_itself name),
  )

  none_made : IsSaving []
  none_made = record { turn = tt; apart = tt; gives = tt; spares = λ other m a. tt }

  wrote : (done : Bool) → IsSaving (WroteAside name bytes done ∷ [])
  wrote done = record { turn = λ _. (tt, tt); apart = (unlike_aside name, tt); gives = (λ e. refl, tt); spares = λ other m a. ((a, refl), tt) }

  synced : (done : Bool) → IsSaving (WroteAside name bytes true ∷ SyncedAside name done ∷ [])
  synced done = record {
    turn = λ _. (tt, λ _. (tt, tt));
    apart = (unlike_aside name, (unlike_aside name, tt));
    gives = (λ e. refl, (tt, tt));
    spares = λ other m a. ((a, refl), ((a, refl), tt));
  }

  renamed : (done : Bool) → IsSaving (WroteAside name bytes true ∷ SyncedAside name true ∷ RenamedAside name done ∷ [])
  renamed done = record {
    turn = λ _. (tt, λ _. (tt, λ _. (rename_may done, tt)));
    apart = (unlike_aside name, (unlike_aside name, (unlike_aside name, tt)));
    gives = (λ e. refl, (tt, (tt, tt)));
    spares = λ other m a. ((a, refl), ((a, refl), ((a, m), tt)));
  }

  settled : (done : Bool) → IsSaving (WroteAside name bytes true ∷ SyncedAside name true ∷ RenamedAside name true ∷ SettledFiles done ∷ [])
  settled done = record {
    turn = λ _. (tt, λ _. (tt, λ _. (rename_may true, λ _. (tt, tt))));
    apart = (unlike_aside name, (unlike_aside name, (unlike_aside name, (tt, tt))));
    gives = (λ e. refl, (tt, (tt, (tt, tt))));
    spares = λ other m a. ((a, refl), ((a, refl), ((a, m), ((tt, refl), tt))));
  }

  saved_to : (failed : SaveStep) → IsSaving (save_calls_to name bytes failed)
  saved_to step.Write = wrote false
  saved_to step.Sync = synced false
  saved_to step.Rename = renamed false
  saved_to step.Settle = settled false
  saved_to step.List = none_made
  saved_to step.Remove = none_made

  module _ (failing : Option StoreFails) (before after : StoreTold) (sound : IsSound before) where
    saving_keeps : (calls : List StoreCall) → IsSaving calls → (made : ℕ) → Goes failing (take made calls) before after → KeepsWhole name bytes before after
    saving_keeps calls is made goes = record {
      file = left_or_given kept name Wanted failing calls before after made is.turn is.apart is.gives sound goes;
      others = λ other m a. (spared_untouched failing other calls before after (is.spares other m a) sound made goes).stays;
    }

    all_kept : (calls : List StoreCall) → IsSaving calls → Goes failing calls before after → KeepsWhole name bytes before after
    all_kept calls is goes = saving_keeps calls is (length calls) (subst (λ (cs : List StoreCall). Goes failing cs before after) (sym (all_taken calls)) goes)

    saved_alone : Goes failing (save_calls name bytes) before after → IsLeft name (Some bytes) after
    saved_alone goes =
        subst (IsLeft name (Some bytes)) (sym fourth.2)
        (settled_alone name three fourth.0 (Some bytes) whole3 there3 (leaves_files failing (SettledFiles true) third.0 fourth.0 fourth.1.leaves))
      where
        second : Goes failing (SyncedAside name true ∷ RenamedAside name true ∷ SettledFiles true ∷ [])
            (store_answered (WroteAside name bytes true) goes.0 before) after
        second = goes.2

        one : StoreTold
        one = store_answered (WroteAside name bytes true) goes.0 before

        third : Goes failing (RenamedAside name true ∷ SettledFiles true ∷ []) (store_answered (SyncedAside name true) second.0 one) after
        third = second.2

        two : StoreTold
        two = store_answered (SyncedAside name true) second.0 one

        fourth : Goes failing (SettledFiles true ∷ []) (store_answered (RenamedAside name true) third.0 two) after
        fourth = third.2

        three : StoreTold
        three = store_answered (RenamedAside name true) third.0 two

        there1 : file_at (aside_of name) goes.0 ≡ Some bytes
        there1 = aside_written before name bytes goes.0 (leaves_files failing (WroteAside name bytes true) before.files goes.0 goes.1.leaves)

        there2 : file_at (aside_of name) second.0 ≡ Some bytes
        there2 =
            ap (file_at (aside_of name)) (sync_files one name true second.0 (leaves_files failing (SyncedAside name true) goes.0 second.0 second.1.leaves))
            ∙ there1

        whole2 : (left_of (aside_of name) two).unsynced ≡ false
        whole2 = ap (λ (f : ChangedFile). f.unsynced) (aside_synced one name bytes there1 (file_at (aside_of name) second.0))

        there3 : file_at name third.0 ≡ Some bytes
        there3 =
            ap (file_at name)
            (done_files (RenamedAside name true) second.0 third.0 refl (leaves_files failing (RenamedAside name true) second.0 third.0 third.1.leaves)
            ∙ ap (λ (o : Option (List ℕ)). rename_file name o second.0) there2)
            ∙ file_left (aside_of name) name (put_file (record { name = name; bytes = bytes }) second.0) (unlike_aside name)
            ∙ file_found name bytes second.0

        whole3 : (left_of name three).unsynced ≡ false
        whole3 =
            ap (λ (f : ChangedFile). f.unsynced)
            (renamed_here name two (left_of name two) refl name bytes true third.0 (name_itself name) (unlike_aside name) there2 whole2)

pub saving_whole : SavingIsWhole
saving_whole failing name bytes before after sound = record {
  within = saving_keeps name bytes failing before after sound (save_calls name bytes) (settled name bytes true);
  failed = λ failed goes. all_kept name bytes failing before after sound (save_calls_to name bytes failed) (saved_to name bytes failed) goes;
  done = saved_alone name bytes failing before after sound;
}

-- ---- removing

module _ (name : List ℕ) where
  record IsRemoving (calls : List StoreCall) : Type 0 where
    turn : AreInTurn (name ∷ []) calls Idle
    apart : AllByRecursion (IsApart name) calls
    gives : AllByRecursion (Gives (name ∷ []) name (λ content. content ≡ None)) calls
    spares : (other : List ℕ) → is_name other name ≡ false → AllByRecursion (Spares other) calls

  remove_may : (is_aside name || (is_name name name || false)) ≡ true
  remove_may = or_second (is_aside name) (is_name name name || false) (ap (λ (b : Bool). b || false) (name_itself name))

  none_removed : IsRemoving []
  none_removed = record { turn = tt; apart = tt; gives = tt; spares = λ other m. tt }

  removed : (done : Bool) → IsRemoving (RemovedFile name done ∷ [])
  removed done = record { turn = λ _. ((tt, remove_may), tt); apart = (tt, tt); gives = (λ e. refl, tt); spares = λ other m. ((tt, m), tt) }

  removal_settled : (done : Bool) → IsRemoving (RemovedFile name true ∷ SettledFiles done ∷ [])
  removal_settled done = record {
    turn = λ _. ((tt, remove_may), λ _. (tt, tt));
    apart = (tt, (tt, tt));
    gives = (λ e. refl, (tt, tt));
    spares = λ other m. ((tt, m), ((tt, refl), tt));
  }

  removed_to : (failed : SaveStep) → IsRemoving (remove_calls_to name failed)
  removed_to step.Remove = removed false
  removed_to step.Settle = removal_settled false
  removed_to step.Write = none_removed
  removed_to step.Sync = none_removed
  removed_to step.Rename = none_removed
  removed_to step.List = none_removed

  module _ (failing : Option StoreFails) (before after : StoreTold) (sound : IsSound before) where
    removing_keeps : (calls : List StoreCall) → IsRemoving calls → (made : ℕ) → Goes failing (take made calls) before after → KeepsOrRemoves name before after
    removing_keeps calls is made goes = record {
      file = left_or_given (name ∷ []) name (λ content. content ≡ None) failing calls before after made is.turn is.apart is.gives sound goes;
      others = λ other m. (spared_untouched failing other calls before after (is.spares other m) sound made goes).stays;
    }

    all_removed : (calls : List StoreCall) → IsRemoving calls → Goes failing calls before after → KeepsOrRemoves name before after
    all_removed calls is goes =
        removing_keeps calls is (length calls) (subst (λ (cs : List StoreCall). Goes failing cs before after) (sym (all_taken calls)) goes)

    removed_alone : Goes failing (remove_calls name) before after → IsLeft name None after
    removed_alone goes =
        let second = goes.2 in
        let one : StoreTold = store_answered (RemovedFile name true) goes.0 before in
        let leaves = leaves_files failing (RemovedFile name true) before.files goes.0 goes.1.leaves in
        subst (IsLeft name None) (sym second.2)
        (settled_alone name one second.0 None
        (ap (λ (f : ChangedFile). f.unsynced) (removed_here name before (left_of name before) refl name true goes.0 (name_itself name)))
        (ap (file_at name) (done_files (RemovedFile name true) before.files goes.0 refl leaves) ∙ file_gone name before.files sound.files_in_order)
        (leaves_files failing (SettledFiles true) goes.0 second.0 second.1.leaves))

pub removing_whole : RemovingIsWhole
removing_whole failing name before after sound = record {
  within = removing_keeps name failing before after sound (remove_calls name) (removal_settled name true);
  failed = λ failed goes. all_removed name failing before after sound (remove_calls_to name failed) (removed_to name failed) goes;
  done = removed_alone name failing before after sound;
}

-- ---- whatever a call of the three answers

pub whole_in_turn : (failing : Option StoreFails) (names : List (List ℕ)) (calls : List StoreCall) (old new : Option StoreTold) → AreInTurn names calls Idle
    → Answered failing calls old new
    → LeavesWhole failing names old new
whole_in_turn failing names calls old new turn answered = record { calls = calls; answered = answered; whole = by old }
  where
    by : (told : Option StoreTold) → IfSome told (λ before. StayWhole failing names calls before)
    by None = tt
    by (Some before) = stay_whole failing names calls before turn

pub saves_whole : {T : Type 0} (failing : Option StoreFails) (name bytes : List ℕ) (old new : Option StoreTold) (result : Result T SaveFault)
    → Saves failing name bytes old new result
    → LeavesWhole failing (name ∷ []) old new
saves_whole failing name bytes old new (Ok x) saves = whole_in_turn failing (name ∷ []) (save_calls name bytes) old new (settled name bytes true).turn saves
saves_whole failing name bytes old new (Err (Failed failed)) saves =
    whole_in_turn failing (name ∷ []) (save_calls_to name bytes failed) old new (saved_to name bytes failed).turn saves.1
saves_whole failing name bytes old new (Err NoMemory) saves =
    whole_in_turn failing (name ∷ []) (take saves.0 (save_calls name bytes)) old new
    (front_in_turn (name ∷ []) (save_calls name bytes) Idle saves.0 (settled name bytes true).turn) saves.2

pub removes_whole : {T : Type 0} (failing : Option StoreFails) (name : List ℕ) (old new : Option StoreTold) (result : Result T SaveFault)
    → Removes failing name old new result
    → LeavesWhole failing (name ∷ []) old new
removes_whole failing name old new (Ok x) removes = whole_in_turn failing (name ∷ []) (remove_calls name) old new (removal_settled name true).turn removes
removes_whole failing name old new (Err (Failed failed)) removes =
    whole_in_turn failing (name ∷ []) (remove_calls_to name failed) old new (removed_to name failed).turn removes.1
removes_whole failing name old new (Err NoMemory) removes =
    whole_in_turn failing (name ∷ []) (take removes.0 (remove_calls name)) old new
    (front_in_turn (name ∷ []) (remove_calls name) Idle removes.0 (removal_settled name true).turn) removes.2

-- ---- clearing

not_aside : (name n : List ℕ) → is_aside name ≡ true → is_aside n ≡ false → is_name n name ≡ false
not_aside name n here other = unlike_name n name (λ same. let bad : true ≡ false = sym here ∙ ap is_aside (sym same) ∙ other in cc)

aside_spares : (n : List ℕ) → is_aside n ≡ false → (call : StoreCall) → IsOfAsides call → Spares n call
aside_spares n plain (ListedAsides names) of = (tt, refl)
aside_spares n plain (ReadFile name reading) of = (tt, refl)
aside_spares n plain (RemovedFile name done) of = (tt, not_aside name n of plain)
aside_spares n plain (SettledFiles done) of = (tt, refl)
aside_spares n plain (WroteAside name bytes done) of = absurd of
aside_spares n plain (SyncedAside name done) of = absurd of
aside_spares n plain (RenamedAside name done) of = absurd of

pub others_stay : OthersStay
others_stay failing before after sound calls name of goes plain =
    (spared_untouched failing name calls before after (all_map IsOfAsides (Spares name) (aside_spares name plain) calls of) sound (length calls)
    (subst (λ (cs : List StoreCall). Goes failing cs before after) (sym (all_taken calls)) goes)).stays

removals_of : (removed : List Cleared) → AllByRecursion (λ (cleared : Cleared). is_aside (string_bytes cleared.name) ≡ true) removed
    → AllByRecursion IsOfAsides (removal_calls removed)
removals_of [] asides = tt
removals_of (cleared ∷ removed) asides = (asides.0, removals_of removed asides.1)

settling_of : (settled : Option Bool) → AllByRecursion IsOfAsides (settling_calls settled)
settling_of None = tt
settling_of (Some done) = (tt, tt)

pub clears_asides : (clearing : Clearing) → ClearsAsides clearing
clears_asides clearing asides = (
  tt,
  all_join IsOfAsides (removal_calls clearing.removed.items) (settling_calls clearing.settled) (removals_of clearing.removed.items asides)
      (settling_of clearing.settled),
)

-- ---- a clearing, whatever it answers

removals_turn : (removed : List Cleared) (more : List StoreCall)
    → AllByRecursion (λ name. is_aside name ≡ true) (map (λ (cleared : Cleared). string_bytes cleared.name) removed)
    → AreInTurn [] more Idle → AreInTurn [] (removal_calls removed ++ more) Idle
removals_turn [] more asides turn = turn
removals_turn (cleared ∷ removed) more asides turn =
    λ _. (
      (tt, ap (λ (b : Bool). b || false) asides.0),
      subst (λ (b : Bool). AreInTurn [] (removal_calls removed ++ more) (cond b Idle (cond cleared.ok Put Idle))) (sym asides.0)
          (removals_turn removed more asides.1 turn),
    )

settling_turn : (settled : Option Bool) → AreInTurn [] (settling_calls settled) Idle
settling_turn None = tt
settling_turn (Some done) = λ _. (tt, tt)

front_named : (removed rest : List (List ℕ)) → AllByRecursion (λ name. is_aside name ≡ true) (removed ++ rest)
    → AllByRecursion (λ name. is_aside name ≡ true) removed
front_named [] rest all = tt
front_named (name ∷ removed) rest all = (all.0, front_named removed rest all.1)

-- a listing, removals of some of what it named, and maybe a settling
clearing_turn : (names : List (List ℕ)) (removed : List Cleared) (rest : List (List ℕ)) (settled : Option Bool)
    → map (λ (cleared : Cleared). string_bytes cleared.name) removed ++ rest ≡ names
    → AreInTurn [] (listing_calls names ++ (removal_calls removed ++ settling_calls settled)) Idle
clearing_turn names removed rest settled named =
    λ asides. (
      tt,
      removals_turn removed (settling_calls settled)
          (front_named (map (λ (cleared : Cleared). string_bytes cleared.name) removed) rest
          (subst (λ (ns : List (List ℕ)). AllByRecursion (λ name. is_aside name ≡ true) ns) (sym named) asides))
          (settling_turn settled),
    )

pub refused_whole : (failing : Option StoreFails) (old new : Option StoreTold) (fault : SaveFault) → BeginsListing failing old new fault
    → LeavesWhole failing [] old new
refused_whole failing old new (Failed call) begun = whole_in_turn failing [] (ListedAsides None ∷ []) old new (λ _. (tt, tt)) begun
refused_whole failing old new NoMemory same = whole_in_turn failing [] [] old new tt (by old same)
  where
    by : (told : Option StoreTold) → new ≡ told → Answered failing [] told new
    by None is = is
    by (Some t) is = (t, is, refl)

-- removals that were begun, and no more
pub begun_whole : (failing now : Option StoreFails) (names : List (String Global)) (old listed new : Option StoreTold) → now ≡ failing
    → Answered failing (listing_calls (map string_bytes names)) old listed → BeginsRemovals now names listed new → LeavesWhole failing [] old new
begun_whole failing now names old listed new same first begun =
    let named : map (λ (cleared : Cleared). string_bytes cleared.name) begun.removed ++ map string_bytes begun.rest ≡ map string_bytes names =
    ap (λ (ns : List (List ℕ)). ns ++ map string_bytes begun.rest) (named_bytes begun.removed (map (λ (c : Cleared). c.name) begun.removed) refl)
    ∙ sym (map-append string_bytes (map (λ (c : Cleared). c.name) begun.removed) begun.rest) ∙ ap (map string_bytes) begun.named in
    whole_in_turn failing [] (listing_calls (map string_bytes names) ++ removal_calls begun.removed) old new
    (subst (λ (cs : List StoreCall). AreInTurn [] (listing_calls (map string_bytes names) ++ cs) Idle) (append-nil (removal_calls begun.removed))
    (clearing_turn (map string_bytes names) begun.removed (map string_bytes begun.rest) None named))
    (answered_more failing now (listing_calls (map string_bytes names)) (removal_calls begun.removed) old listed new same first begun.answered)

-- all removals, and no settling
pub settling_whole : (failing now : Option StoreFails) (removed : List Cleared) (names : List (String Global)) (old listed cleared new : Option StoreTold)
    → now ≡ failing
    → map (λ (c : Cleared). c.name) removed ≡ names → Answered failing (listing_calls (map string_bytes names)) old listed
    → Answered now (removal_calls removed) listed cleared
    → new ≡ cleared → LeavesWhole failing [] old new
settling_whole failing now removed names old listed cleared new same named first later stays =
    begun_whole failing now names old listed new same first (record {
      removed = removed;
      rest = [];
      named = append-nil (map (λ (c : Cleared). c.name) removed) ∙ named;
      answered = subst (λ (n : Option StoreTold). Answered now (removal_calls removed) listed n) (sym stays) later;
    })

pub clears_whole : (failing : Option StoreFails) (old new : Option StoreTold) (result : Result Clearing SaveFault)
    → IfOk result (λ clearing. Answered failing (cleared_calls clearing) old new)
    → IfErr result (λ _. LeavesWhole failing [] old new) → LeavesWhole failing [] old new
clears_whole failing old new (Ok clearing) answered begun =
    let names : List (List ℕ) = map (λ (c : Cleared). string_bytes c.name) clearing.removed.items in
    whole_in_turn failing [] (cleared_calls clearing) old new (clearing_turn names clearing.removed.items [] clearing.settled (append-nil names)) answered
clears_whole failing old new (Err fault) answered begun = begun
