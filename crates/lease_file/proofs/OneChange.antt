-- How a store answered one call that changes its files, by whether it was done.
use Rattle.std.proofs.Common.{rules, ℕ, ◌≡◌, ◌+◌, inl, inr, Bool, true, false, List, [], ◌∷◌, length, Option, Some, None, Result, Ok, Err, refl, ap, sym}
use Rattle.std.specs.Prelude.{not, cond, option_map, IfOk}
use Rattle.world.specs.declared.faults.DeviceAnswer.TheVariants as Answer
use Rattle.world.specs.declared.faults.DeviceAnswer.{DeviceAnswer}
use Rattle.world.specs.Causes.{FailsAsTold, done_of}
use Rattle.world.specs.FileLists.{StoreFile}
use Rattle.world.specs.SoundStores.{LeavesFiles, was_done}
use Rattle.world.specs.StoreFails.{StoreFails, StoreForetold, fails_at}
use Rattle.world.specs.StoreCalls.{StoreCall, StoreTold, ListedAsides, ReadFile, WroteAside, SyncedAside, RenamedAside, RemovedFile, SettledFiles, ChangesFiles, FailedFiles, RenamesAside, RenameForetold, fails_rename, files_by, store_answered, store_number}
use Rattle.file_choices.specs.Choices.{succeeded}
use Rattle.file_choices.specs.StoreWalks.{Answered, IsAnswered, IsDoneAsTold, IsTrueOf}

-- a call that changes files, and when it fails where that is told
pub record IsChange (fails : StoreFails → StoreTold → Bool) (call : Bool → StoreCall) : Type 0 where
  pub was : was_done (call true) ≡ true
  pub undone : succeeded (call false) ≡ false
  pub kept : (files : List StoreFile) → files ≡ cond (was_done (call false)) (files_by (call false) files) files
  pub done : (failing : StoreFails) (told : StoreTold) (done : Bool) → fails failing told ≡ not done → IsDoneAsTold (Some failing) (call done) told
  pub truly : (done : Bool) (told : StoreTold) → IsTrueOf (call done) told

-- what a call leaves that was not done
failed_leaves : (call : StoreCall) (old new : List StoreFile) → succeeded call ≡ false → FailedFiles call old new → LeavesFiles call old new
failed_leaves (ListedAsides names) old new undone (inl same) = inl same
failed_leaves (ListedAsides names) old new undone (inr same) = inl same
failed_leaves (ReadFile name reading) old new undone (inl same) = inl same
failed_leaves (ReadFile name reading) old new undone (inr same) = inl same
failed_leaves (WroteAside name bytes done) old new undone failed = inr (undone, failed)
failed_leaves (SyncedAside name done) old new undone (inl same) = inl same
failed_leaves (SyncedAside name done) old new undone (inr same) = inl same
failed_leaves (RenamedAside name done) old new undone failed = inr (undone, failed)
failed_leaves (RemovedFile name done) old new undone failed = inr (undone, failed)
failed_leaves (SettledFiles done) old new undone (inl same) = inl same
failed_leaves (SettledFiles done) old new undone (inr same) = inl same

one : (failing : Option StoreFails) (call : StoreCall) (told : StoreTold) (files : List StoreFile) (new : Option StoreTold)
    → new ≡ Some (store_answered call files told) → IsAnswered failing call told files → Answered failing (call ∷ []) (Some told) new
one failing call told files new same is = (store_answered call files told, same, (files, is, refl))

told_answered : (fails : StoreFails → StoreTold → Bool) (call : Bool → StoreCall) (failing : Option StoreFails) (told : StoreTold) (new : Option StoreTold)
    (answer : Result (Unit {0}) DeviceAnswer) → IsChange fails call → ChangesFiles failing call (Some told) new answer
    → FailsAsTold (option_map (λ f. fails f told) failing) answer
    → IfOk (done_of answer) (λ done. Answered failing (call done ∷ []) (Some told) new)
told_answered fails call None told new (Ok x) is changes foretold =
    one None (call true) told _ new changes (record { done = tt; truly = is.truly true told; leaves = inl refl })
told_answered fails call (Some f) told new (Ok x) is changes foretold = one (Some f) (call true) told _ new changes (record {
  done = is.done f told true foretold;
  truly = is.truly true told;
  leaves = ap (λ (b : Bool). cond b (files_by (call true) told.files) told.files) (sym is.was);
})
told_answered fails call None told new (Err Answer.Failed) is (files, failed, same) foretold =
    one None (call false) told files new same
    (record { done = tt; truly = is.truly false told; leaves = failed_leaves (call false) told.files files is.undone failed })
told_answered fails call (Some f) told new (Err Answer.Failed) is changes foretold =
    one (Some f) (call false) told _ new changes
    (record { done = is.done f told false foretold; truly = is.truly false told; leaves = is.kept told.files })
told_answered fails call failing told new (Err Answer.NoMemory) is changes foretold = tt

abbrev pub fails_next : StoreFails → StoreTold → Bool
fails_next failing told = fails_at failing (length told.calls + 1)

pub change_answered : (call : Bool → StoreCall) (failing : Option StoreFails) (old new : Option StoreTold) (answer : Result (Unit {0}) DeviceAnswer)
    → IsChange fails_next call → ChangesFiles failing call old new answer → StoreForetold failing (store_number old) answer
    → IfOk (done_of answer) (λ done. Answered failing (call done ∷ []) old new)
change_answered call failing None new (Ok x) is changes foretold = changes
change_answered call failing None new (Err Answer.Failed) is changes foretold = changes
change_answered call failing None new (Err Answer.NoMemory) is changes foretold = tt
change_answered call failing (Some told) new answer is changes foretold = told_answered fails_next call failing told new answer is changes foretold

pub renaming_answered : (name : List ℕ) (failing : Option StoreFails) (old new : Option StoreTold) (answer : Result (Unit {0}) DeviceAnswer)
    → RenamesAside failing name old new answer → RenameForetold failing name old answer
    → IfOk (done_of answer) (λ done. Answered failing (RenamedAside name done ∷ []) old new)
renaming_answered name failing None new (Ok x) changes foretold = changes
renaming_answered name failing None new (Err Answer.Failed) changes foretold = changes
renaming_answered name failing None new (Err Answer.NoMemory) changes foretold = tt
renaming_answered name failing (Some told) new answer changes foretold =
    told_answered (λ f t. fails_rename name t f) (RenamedAside name) failing told new answer (search rules) changes foretold
