-- What the store over a folder tells of a call, by what the system's calls for it made of the files, and what was noted.
use Rattle.std.proofs.Common.{◌≡◌, ℕ, Bool, true, false, inl, inr, List, Option, None, Some, option_map, is_ok, Result, Ok, Err, refl, sym, ap, subst, ◌∙◌}
use Rattle.std.proofs.lemmas.List.Folds.{list_all-append}
use Rattle.std.specs.declared.io.ErrorKind.{ErrorKind}
use Rattle.world.specs.declared.faults.DeviceAnswer.{DeviceAnswer}
use Rattle.world.specs.declared.faults.DeviceAnswer.TheVariants as Answer
use Rattle.world.specs.FileNames.{aside_of, IsFileName}
use Rattle.world.specs.FileLists.{StoreFile, file_at, rename_file, asides}
use Rattle.world.specs.StoreCalls.{StoreCall, ListedAsides, ReadFile, WroteAside, SyncedAside, RenamedAside, RemovedFile, SettledFiles, Unread, StoreTold, Appended, store_answered, reading_of, files_by, FailedFiles, ChangesFiles, ListsAsides, ReadsFile, FindsAside, RenameForetold}
use Rattle.world.proofs.NameOrder.{aside_unlike}
use Rattle.system_calls.specs.Asking.{failure_of}
use Rattle.system_calls.specs.Counts.{AnswersAs}
use Rattle.system_calls.specs.DiskCalls.{Renamed}
use Rattle.system_calls.specs.DiskFiles.{FolderHeld, Moves, move_file, Holds}
use Rattle.system_calls.specs.FolderNotes.{told_of, begun, answered}
use Rattle.system_calls.specs.Paths.{file_path}
use Rattle.folder_store.specs.FolderFiles.{Changes, AsBefore, IsWritten, IsRemoved, IsRead, AppendsAsides}

-- ---- calls that are to change the files

-- A call of the store changes the files, by how the system's calls for it ended.
abbrev ByCall : (call : Bool → StoreCall) → Option ErrorKind → (old new : List StoreFile) → Type 0
ByCall call None old new = new ≡ files_by (call true) old
ByCall call (Some failure) old new = FailedFiles (call false) old new

by_other : (by more : List StoreFile → List StoreFile → Type 0) → ((old new : List StoreFile) → by old new → more old new) → (old new : Option FolderHeld)
    → Changes by old new → Changes more old new
by_other by more so None new h = h
by_other by more so (Some old) new (it, change, told, is) = (it, so old.files it.files change, told, is)

ended_so : (call : Bool → StoreCall) (held : FolderHeld) (ended : Result (Unit {0}) ErrorKind)
    (result : Result (Unit {0}) DeviceAnswer) (files : List StoreFile)
    (new : Option StoreTold) → AnswersAs (failure_of ended) result → ByCall call (failure_of ended) held.files files
    → new ≡ Some (store_answered (call (is_ok ended)) files (told_of held)) → ChangesFiles None call (Some (told_of held)) new result
ended_so call held (Ok x) (Ok y) files new answers change is = is ∙ ap (λ files. Some (store_answered (call true) files (told_of held))) change
ended_so call held (Ok x) (Err answer) files new answers change is = absurd answers
ended_so call held (Err kind) (Ok y) files new answers change is = absurd answers
ended_so call held (Err kind) (Err answer) files new answers change is = rw answers (files, change, is)

noted_so : (call : StoreCall) (held it : FolderHeld) (second last : Option FolderHeld) → it.told ≡ told_of held → second ≡ Some it
    → last ≡ option_map (answered call) second → option_map told_of last ≡ Some (store_answered call it.files (told_of held))
noted_so call held it second last kept is noted =
    ap (option_map told_of) (noted ∙ ap (option_map (answered call)) is) ∙ ap (λ told. Some (store_answered call it.files told)) kept

none_so : (call : StoreCall) (second last : Option FolderHeld) → second ≡ None → last ≡ option_map (answered call) second → option_map told_of last ≡ None
none_so call second last none noted = ap (option_map told_of) (noted ∙ ap (option_map (answered call)) none)

told_so : (call : Bool → StoreCall) (ended : Result (Unit {0}) ErrorKind) (start first second last : Option FolderHeld)
    (result : Result (Unit {0}) DeviceAnswer)
    → first ≡ option_map begun start → Changes (ByCall call (failure_of ended)) first second → last ≡ option_map (answered (call (is_ok ended))) second
    → AnswersAs (failure_of ended) result → ChangesFiles None call (option_map told_of start) (option_map told_of last) result
told_so call ended None first second last result begins change noted answers =
    none_so (call (is_ok ended)) second last (subst (λ m. Changes (ByCall call (failure_of ended)) m second) begins change) noted
told_so call ended (Some held) first second last result begins change noted answers =
    let (it, changed, kept, is) = subst (λ m. Changes (ByCall call (failure_of ended)) m second) begins change in
    ended_so call held ended result it.files (option_map told_of last) answers changed (noted_so (call (is_ok ended)) held it second last kept is noted)

-- Nothing is told where nothing was noted.
pub unasked : (call : Bool → StoreCall) (told : Option StoreTold) (answer : DeviceAnswer) → answer ≡ Answer.NoMemory
    → ChangesFiles {T = Unit {0}} None call told told (Err answer)
unasked call None answer e = refl
unasked call (Some told) answer e = rw e refl

wrote : (name bytes : List ℕ) (failure : Option ErrorKind) (old new : List StoreFile) → IsWritten bytes failure (aside_of name) old new
    → ByCall (WroteAside name bytes) failure old new
wrote name bytes None old new h = h
wrote name bytes (Some kind) old new h = h

same_files : (call : Bool → StoreCall) → ((done : Bool) (files : List StoreFile) → files_by (call done) files ≡ files)
    → ((old new : List StoreFile) → new ≡ old → FailedFiles (call false) old new) → (failure : Option ErrorKind) (old new : List StoreFile) → new ≡ old
    → ByCall call failure old new
same_files call stays fails None old new h = h ∙ sym (stays true old)
same_files call stays fails (Some kind) old new h = fails old new h

gone : (name : List ℕ) (failure : Option ErrorKind) (old new : List StoreFile) → IsRemoved failure name old new → ByCall (RemovedFile name) failure old new
gone name None old new h = h
gone name (Some kind) old new h = h

same_move : (name : List ℕ) (bytes : Option (List ℕ)) (files : List StoreFile) → move_file (aside_of name) name bytes files ≡ rename_file name bytes files
same_move name None files = refl
same_move name (Some bytes) files = refl

moved : (name : List ℕ) (failure : Option ErrorKind) (old new : List StoreFile) → Moves (aside_of name) name failure old new
    → ByCall (RenamedAside name) failure old new
moved name None old new (there, is) = is ∙ same_move name (file_at (aside_of name) old) old
moved name (Some kind) old new (inl same) = inl same
moved name (Some kind) old new (inr is) = inr (is ∙ same_move name (file_at (aside_of name) old) old)

pub aside_named : (name : List ℕ) → IsFileName name → IsFileName (aside_of name)
aside_named name h = rw list_all-append (rw h refl)

moved_at : (dir name from to : List ℕ) (failure : Option ErrorKind) → IsFileName name → from ≡ file_path dir (aside_of name) → to ≡ file_path dir name
    → (old new : Option FolderHeld) → Holds dir (Renamed from to failure) old new → Changes (ByCall (RenamedAside name) failure) old new
moved_at dir name from to failure named at at_to None new h = h
moved_at dir name from to failure named at at_to (Some old) new (it, made, is) =
    (it, moved name failure old.files it.files (made.files (aside_of name) name (aside_named name named) named (aside_unlike name) at at_to), made.told, is)

-- `done` is what was noted, and `ended` how the system's calls ended
module _ (ended : Result (Unit {0}) ErrorKind) (done : Bool) (start first second last : Option FolderHeld) (result : Result (Unit {0}) DeviceAnswer)
    (is : done ≡ is_ok ended) (begins : first ≡ option_map begun start) (answers : AnswersAs (failure_of ended) result) where
  abbrev Noted : (Bool → StoreCall) → Type 0
  Noted call = last ≡ option_map (answered (call done)) second

  abbrev Now : (call : Bool → StoreCall) → Type 0
  Now call = ChangesFiles None call (option_map told_of start) (option_map told_of last) result

  by_change : (call : Bool → StoreCall) (by : List StoreFile → List StoreFile → Type 0)
      → ((old new : List StoreFile) → by old new → ByCall call (failure_of ended) old new) → Changes by first second → Noted call → Now call
  by_change call by so change noted =
      told_so call ended start first second last result begins (by_other by (ByCall call (failure_of ended)) so first second change)
      (subst (λ done. last ≡ option_map (answered (call done)) second) is noted) answers

  pub wrote_so : (name bytes : List ℕ) → Changes (IsWritten bytes (failure_of ended) (aside_of name)) first second → Noted (WroteAside name bytes)
      → Now (WroteAside name bytes)
  wrote_so name bytes = by_change (WroteAside name bytes) (IsWritten bytes (failure_of ended) (aside_of name)) (wrote name bytes (failure_of ended))

  pub synced_so : (name : List ℕ) → Changes AsBefore first second → Noted (SyncedAside name) → Now (SyncedAside name)
  synced_so name =
      by_change (SyncedAside name) AsBefore (same_files (SyncedAside name) (λ done files. refl) (λ old new same. inl same) (failure_of ended))

  pub settled_so : Changes AsBefore first second → Noted SettledFiles → Now SettledFiles
  settled_so = by_change SettledFiles AsBefore (same_files SettledFiles (λ done files. refl) (λ old new same. inl same) (failure_of ended))

  pub removed_so : (name : List ℕ) → Changes (IsRemoved (failure_of ended) name) first second → Noted (RemovedFile name) → Now (RemovedFile name)
  removed_so name = by_change (RemovedFile name) (IsRemoved (failure_of ended) name) (gone name (failure_of ended))

  pub renamed_so : (dir name from to : List ℕ) → IsFileName name → from ≡ file_path dir (aside_of name) → to ≡ file_path dir name
      → Holds dir (Renamed from to (failure_of ended)) first second → Noted (RenamedAside name) → Now (RenamedAside name)
  renamed_so dir name from to named at at_to holds =
      by_change (RenamedAside name) (ByCall (RenamedAside name) (failure_of ended)) (λ old new h. h)
      (moved_at dir name from to (failure_of ended) named at at_to first second holds)

-- ---- a renaming

pub not_found : (name : List ℕ) (answer : DeviceAnswer) (told : Option StoreTold) → FindsAside {T = Unit {0}} name told (Err answer)
not_found name answer None = tt
not_found name answer (Some told) = tt

-- Only an aside that is there is renamed.
there : (dir name from to : List ℕ) (start first second : Option FolderHeld) → IsFileName name → from ≡ file_path dir (aside_of name)
    → to ≡ file_path dir name → first ≡ option_map begun start → Holds dir (Renamed from to None) first second
    → FindsAside {T = Unit {0}} name (option_map told_of start) (Ok tt)
there dir name from to None first second named at at_to begins h = tt
there dir name from to (Some held) first second named at at_to begins h =
    let (it, made, is) = subst (λ m. Holds dir (Renamed from to None) m second) begins h in
    (made.files (aside_of name) name (aside_named name named) named (aside_unlike name) at at_to).0

pub finds_so : (dir name from to : List ℕ) (ended : Result (Unit {0}) ErrorKind) (start first second : Option FolderHeld)
    (result : Result (Unit {0}) DeviceAnswer)
    → IsFileName name → from ≡ file_path dir (aside_of name) → to ≡ file_path dir name → first ≡ option_map begun start
    → Holds dir (Renamed from to (failure_of ended)) first second → AnswersAs (failure_of ended) result
    → FindsAside name (option_map told_of start) result
finds_so dir name from to (Ok x) start first second (Ok y) named at at_to begins h answers =
    there dir name from to start first second named at at_to begins h
finds_so dir name from to (Err kind) start first second (Ok y) named at at_to begins h answers = absurd answers
finds_so dir name from to ended start first second (Err answer) named at at_to begins h answers = not_found name answer (option_map told_of start)

-- which renamings fail isn't told
pub not_foretold : (name : List ℕ) (told : Option StoreTold) (result : Result (Unit {0}) DeviceAnswer) → RenameForetold None name told result
not_foretold name None result = tt
not_foretold name (Some told) result = tt

-- ---- reading and listing

-- what is told of a call that changed no file
abbrev Keeps : (call : List StoreFile → StoreCall) → Option FolderHeld → Option StoreTold → Type 0
Keeps call None told = told ≡ None
Keeps call (Some held) told = told ≡ Some (store_answered (call held.files) held.files (told_of held))

-- a call was noted by the files as they were then
abbrev NotedBy : (call : List StoreFile → StoreCall) → (second last : Option FolderHeld) → Type 0
NotedBy call second last = last ≡ option_map (λ now. answered (call now.files) now) second

kept_so : (call : List StoreFile → StoreCall) (start first second last : Option FolderHeld) → first ≡ option_map begun start → Changes AsBefore first second
    → NotedBy call second last → Keeps call start (option_map told_of last)
kept_so call None first second last begins kept noted =
    ap (option_map told_of)
    (noted ∙ ap (option_map (λ now. answered (call now.files) now)) (subst (λ m. Changes AsBefore m second) begins kept))
kept_so call (Some held) first second last begins kept noted =
    let (it, same, told, is) = subst (λ m. Changes AsBefore m second) begins kept in
    ap (option_map told_of) (noted ∙ ap (option_map (λ now. answered (call now.files) now)) is)
    ∙ ap (λ told. Some (store_answered (call it.files) it.files told)) told
    ∙ ap (λ files. Some (store_answered (call files) files (told_of held))) same

-- nothing was noted for want of memory
unnoted_so : (start first second : Option FolderHeld) → first ≡ option_map begun start → Changes AsBefore first second
    → option_map told_of second ≡ option_map told_of start
unnoted_so None first second begins kept = ap (option_map told_of) (subst (λ m. Changes AsBefore m second) begins kept)
unnoted_so (Some held) first second begins kept =
    let (it, same, told, is) = subst (λ m. Changes AsBefore m second) begins kept in
    ap (option_map told_of) is
    ∙ ap (λ files. Some (record { files = files; calls = it.told.calls; disk = it.told.disk; undo = it.told.undo })) same
    ∙ ap (λ told. Some (record { files = held.files; calls = told.calls; disk = told.disk; undo = told.undo })) told

unread_early : (name before after : List ℕ) (told told_new : Option StoreTold) (answer : DeviceAnswer) → told_new ≡ told → answer ≡ Answer.NoMemory
    → ReadsFile name told told_new before after (Err answer)
unread_early name before after None told_new answer same e = same
unread_early name before after (Some told) told_new answer same e = rw e same

unlisted_early : (before after : List (List ℕ)) (told told_new : Option StoreTold) (answer : DeviceAnswer) → told_new ≡ told → answer ≡ Answer.NoMemory
    → ListsAsides {T = Unit {0}} told told_new before after (Err answer)
unlisted_early before after None told_new answer same e = same
unlisted_early before after (Some told) told_new answer same e = rw e same

pub unread_unnoted : (start first second : Option FolderHeld) → first ≡ option_map begun start → (name before after : List ℕ) → Changes AsBefore first second
    → ReadsFile name (option_map told_of start) (option_map told_of second) before after (Err Answer.NoMemory)
unread_unnoted start first second begins name before after kept =
    unread_early name before after (option_map told_of start) (option_map told_of second) Answer.NoMemory (unnoted_so start first second begins kept) refl

pub unlisted_unnoted : (start first second : Option FolderHeld) → first ≡ option_map begun start → (before after : List (List ℕ))
    → Changes AsBefore first second
    → ListsAsides {T = Unit {0}} (option_map told_of start) (option_map told_of second) before after (Err Answer.NoMemory)
unlisted_unnoted start first second begins before after kept =
    unlisted_early before after (option_map told_of start) (option_map told_of second) Answer.NoMemory (unnoted_so start first second begins kept) refl

appended : (name before after : List ℕ) (found : Bool) (held : FolderHeld) (second : Option FolderHeld)
    → Changes (IsRead before after (Ok found) name) (Some (begun held)) second → Appended (file_at name held.files) before after found
appended name before after found held second (it, (same, so), told, is) = so

module _ (start first second last : Option FolderHeld) (begins : first ≡ option_map begun start) where
  found_by : (start : Option FolderHeld) → first ≡ option_map begun start → (name before after : List ℕ) (found : Bool)
      → Changes (IsRead before after (Ok found) name) first second
      → Keeps (λ files. ReadFile name (reading_of (file_at name files))) start (option_map told_of last)
      → ReadsFile name (option_map told_of start) (option_map told_of last) before after (Ok found)
  found_by None begins name before after found change kept = kept
  found_by (Some held) begins name before after found change kept =
      (appended name before after found held second (subst (λ m. Changes (IsRead before after (Ok found) name) m second) begins change), kept)

  pub found_so : (name before after : List ℕ) (found : Bool) → Changes (IsRead before after (Ok found) name) first second
      → NotedBy (λ files. ReadFile name (reading_of (file_at name files))) second last
      → ReadsFile name (option_map told_of start) (option_map told_of last) before after (Ok found)
  found_so name before after found change noted =
      found_by start begins name before after found change
      (kept_so (λ files. ReadFile name (reading_of (file_at name files))) start first second last begins
      (by_other (IsRead before after (Ok found) name) AsBefore (λ old new h. h.0) first second change) noted)

  unread_by : (start : Option FolderHeld) (name before after : List ℕ) → Keeps (λ files. ReadFile name Unread) start (option_map told_of last)
      → ReadsFile name (option_map told_of start) (option_map told_of last) before after (Err Answer.Failed)
  unread_by None name before after h = h
  unread_by (Some held) name before after h = h

  pub unread_so : (name before after : List ℕ) (answer : DeviceAnswer) → answer ≡ Answer.Failed → Changes AsBefore first second
      → NotedBy (λ files. ReadFile name Unread) second last
      → ReadsFile name (option_map told_of start) (option_map told_of last) before after (Err answer)
  unread_so name before after answer e kept noted =
      rw e (unread_by start name before after (kept_so (λ files. ReadFile name Unread) start first second last begins kept noted))

  listed_by : (start : Option FolderHeld) → first ≡ option_map begun start → (before after : List (List ℕ)) → AppendsAsides first before after
      → Keeps (λ files. ListedAsides (Some (asides files))) start (option_map told_of last)
      → ListsAsides {T = Unit {0}} (option_map told_of start) (option_map told_of last) before after (Ok tt)
  listed_by None begins before after finds kept = kept
  listed_by (Some held) begins before after finds kept = (subst (λ m. AppendsAsides m before after) begins finds, kept)

  pub listed_so : (before after : List (List ℕ)) → Changes AsBefore first second → AppendsAsides first before after
      → NotedBy (λ files. ListedAsides (Some (asides files))) second last
      → ListsAsides {T = Unit {0}} (option_map told_of start) (option_map told_of last) before after (Ok tt)
  listed_so before after kept finds noted =
      listed_by start begins before after finds (kept_so (λ files. ListedAsides (Some (asides files))) start first second last begins kept noted)

  unlisted_by : (start : Option FolderHeld) (before after : List (List ℕ)) → Keeps (λ files. ListedAsides None) start (option_map told_of last)
      → ListsAsides {T = Unit {0}} (option_map told_of start) (option_map told_of last) before after (Err Answer.Failed)
  unlisted_by None before after h = h
  unlisted_by (Some held) before after h = h

  pub unlisted_so : (before after : List (List ℕ)) (answer : DeviceAnswer) → answer ≡ Answer.Failed → Changes AsBefore first second
      → NotedBy (λ files. ListedAsides None) second last
      → ListsAsides {T = Unit {0}} (option_map told_of start) (option_map told_of last) before after (Err answer)
  unlisted_so before after answer e kept noted =
      rw e (unlisted_by start before after (kept_so (λ files. ListedAsides None) start first second last begins kept noted))

-- what fails is not told
pub ruleset not_told = (unasked, not_found, not_foretold)
