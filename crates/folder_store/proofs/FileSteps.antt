-- What the system's calls make of a folder's files, one after another.
use Rattle.std.proofs.Common.{◌≡◌, ◌⊎◌, ℕ, Bool, true, false, inl, inr, List, [], ◌∷◌, ◌++◌, Option, None, Some, Result, Ok, Err, length, take, drop, append_assoc, append-nil, true≢false, refl, sym, ap, subst, ◌∙◌, cond}
use Rattle.std.proofs.lemmas.List.{take-append-drop}
use Rattle.std.specs.declared.io.ErrorKind.{ErrorKind}
use Rattle.std.specs.declared.cmp.Ordering.{Ordering}
use Rattle.std.specs.declared.cmp.Ordering.TheVariants.{Less, Equal, Greater}
use Rattle.std.specs.Ordering.{is_eq, match_ordering}
use Rattle.world.specs.FileNames.{name_cmp, is_name, IsFileName}
use Rattle.world.specs.FileLists.{StoreFile, file_at, put_file, drop_file}
use Rattle.world.proofs.NameOrder.{name_itself}
use Rattle.system_calls.specs.DiskCalls.{DiskCall, Opened, Made, Wrote, Synced, Closed, Removed, is_missing}
use Rattle.system_calls.specs.DiskFiles.{FolderHeld, LeavesAny, Puts, GoesBehind, FailsToDrop, LeavesFiles, Holds, Tells}
use Rattle.folder_store.specs.FolderFiles.{Changes, AsBefore, KeepsFiles, ChangesAt, IsWritten, IsRemoved, IsWriting, EndsWriting, WritesBehind}
use Rattle.system_calls.specs.Paths.{file_path}

-- ---- lists of files

is_equal : (o : Ordering) → is_eq o ≡ true → o ≡ Equal
is_equal Less e = cc
is_equal Equal e = refl
is_equal Greater e = cc

module _ (name first second : List ℕ) where
  abbrev one : StoreFile
  one = record { name = name; bytes = first }

  abbrev other : StoreFile
  other = record { name = name; bytes = second }

  itself : (xs : List StoreFile) → put_file other (one ∷ xs) ≡ other ∷ xs
  itself xs = ap (λ o. match_ordering o (other ∷ one ∷ xs) (other ∷ xs) (one ∷ put_file other xs)) (is_equal (name_cmp name name) (name_itself name))

  by_order : (o : Ordering) (file : StoreFile) (files : List StoreFile) → name_cmp name file.name ≡ o
      → put_file other (put_file one files) ≡ put_file other files
      → put_file other (match_ordering o (one ∷ file ∷ files) (one ∷ files) (file ∷ put_file one files))
      ≡ match_ordering o (other ∷ file ∷ files) (other ∷ files) (file ∷ put_file other files)
  by_order Less file files e h = itself (file ∷ files)
  by_order Equal file files e h = itself files
  by_order Greater file files e h =
      ap (λ o. match_ordering o (other ∷ file ∷ put_file one files) (other ∷ put_file one files) (file ∷ put_file other (put_file one files))) e
      ∙ ap (λ xs. file ∷ xs) h

  -- the last writing counts
  put_again : (files : List StoreFile) → put_file other (put_file one files) ≡ put_file other files
  put_again [] = itself []
  put_again (file ∷ files) = by_order (name_cmp name file.name) file files refl (put_again files)

drop_missing : (name : List ℕ) (files : List StoreFile) → file_at name files ≡ None → drop_file name files ≡ files
drop_missing name [] e = refl
drop_missing name (file ∷ files) e = by (is_name name file.name) e (drop_missing name files)
  where
    by : (b : Bool) → cond b (Some file.bytes) (file_at name files) ≡ None → (file_at name files ≡ None → drop_file name files ≡ files)
        → cond b files (file ∷ drop_file name files) ≡ file ∷ files
    by true e rest = cc
    by false e rest = ap (λ xs. file ∷ xs) (rest e)

-- ---- what changes nothing

pub stays : (old : Option FolderHeld) → Changes AsBefore old old
stays None = refl
stays (Some held) = (held, refl, refl, refl)

-- what comes before and after may change nothing
pub after_nothing : (by : List StoreFile → List StoreFile → Type 0) (old mid new : Option FolderHeld) → Changes AsBefore old mid → Changes by mid new
    → Changes by old new
after_nothing by None mid new before after = subst (λ m. Changes by m new) before after
after_nothing by (Some old) mid new (it, same, told, is) after =
    let (last, change, kept, made) = subst (λ m. Changes by m new) is after in
    (last, subst (λ files. by files last.files) same change, kept ∙ told, made)

before_nothing : (by : List StoreFile → List StoreFile → Type 0) (old mid new : Option FolderHeld) → Changes by old mid → Changes AsBefore mid new
    → Changes by old new
before_nothing by None mid new before after = subst (λ m. Changes AsBefore m new) before after
before_nothing by (Some old) mid new (it, change, told, is) after =
    let (last, same, kept, made) = subst (λ m. Changes AsBefore m new) is after in
    (last, subst (λ files. by old.files files) (sym same) change, kept ∙ told, made)

abbrev IsQuiet : DiskCall → Type 0
IsQuiet call = (dir : List ℕ) (old : FolderHeld) (files : List StoreFile) → LeavesFiles dir call old files → files ≡ old.files

pub quiet_so : (call : DiskCall) → IsQuiet call → (dir : List ℕ) (old new : Option FolderHeld) → Holds dir call old new → Changes AsBefore old new
quiet_so call quiet dir None new h = h
quiet_so call quiet dir (Some old) new (it, made, is) = (it, quiet dir old it.files made.files, made.told, is)

pub unopened : (path : List ℕ) (failure : Option ErrorKind) (old new : List ℕ → Option FolderHeld) → Tells (Opened path failure) old new → KeepsFiles old new
unopened path failure old new h dir = quiet_so (Opened path failure) (λ dir held files same. same) dir (old dir) (new dir) (h dir)

pub closed : (old mid new : List ℕ → Option FolderHeld) → KeepsFiles old mid → Tells Closed mid new → KeepsFiles old new
closed old mid new h after dir =
    after_nothing AsBefore (old dir) (mid dir) (new dir) (h dir) (quiet_so Closed (λ dir held files same. same) dir (mid dir) (new dir) (after dir))

pub synced : (path : List ℕ) (failure : Option ErrorKind) (old opened mid new : List ℕ → Option FolderHeld) → Tells (Opened path None) old opened
    → Tells (Synced failure) opened mid → Tells Closed mid new → KeepsFiles old new
synced path failure old opened mid new begun made ended =
    closed old mid new
    (λ dir. after_nothing AsBefore (old dir) (opened dir) (mid dir) (unopened path None old opened begun dir)
    (quiet_so (Synced failure) (λ dir held files same. same) dir (opened dir) (mid dir) (made dir)))
    ended

-- ---- removing

dropped : (missing : Bool) (name : List ℕ) (old new : List StoreFile) → missing ≡ true → FailsToDrop missing name old new → new ≡ drop_file name old
dropped true name old new e (none, same) = same ∙ sym (drop_missing name old none)
dropped false name old new e h = cc

kept_or_dropped : (missing : Bool) (name : List ℕ) (old new : List StoreFile) → missing ≡ false → FailsToDrop missing name old new
    → (new ≡ old) ⊎ (new ≡ drop_file name old)
kept_or_dropped true name old new e h = absurd (true≢false e)
kept_or_dropped false name old new e h = h

at_name : (by : List StoreFile → List StoreFile → Type 0) (call : DiskCall) (dir : List ℕ) (old new : Option FolderHeld)
    → ((held it : FolderHeld) → LeavesFiles dir call held it.files → by held.files it.files) → Holds dir call old new → Changes by old new
at_name by call dir None new so h = h
at_name by call dir (Some old) new so (it, made, is) = (it, so old it made.files, made.told, is)

pub removed : (path : List ℕ) (old new : List ℕ → Option FolderHeld) → Tells (Removed path None) old new → ChangesAt path (IsRemoved None) old new
removed path old new h dir name named at =
    at_name (IsRemoved None name) (Removed path None) dir (old dir) (new dir) (λ held it made. made name named at) (h dir)

pub missing : (path : List ℕ) (failure : ErrorKind) (old new : List ℕ → Option FolderHeld) → is_missing failure ≡ true
    → Tells (Removed path (Some failure)) old new → ChangesAt path (IsRemoved None) old new
missing path failure old new is h dir name named at =
    at_name (IsRemoved None name) (Removed path (Some failure)) dir (old dir) (new dir)
    (λ held it made. dropped (is_missing failure) name held.files it.files is (made name named at)) (h dir)

pub unremoved : (path : List ℕ) (failure : ErrorKind) (old new : List ℕ → Option FolderHeld) → is_missing failure ≡ false
    → Tells (Removed path (Some failure)) old new → ChangesAt path (IsRemoved (Some failure)) old new
unremoved path failure old new is h dir name named at =
    at_name (IsRemoved (Some failure) name) (Removed path (Some failure)) dir (old dir) (new dir)
    (λ held it made. kept_or_dropped (is_missing failure) name held.files it.files is (made name named at)) (h dir)

-- ---- writing

pub unmade : (path bytes : List ℕ) (failure : ErrorKind) (old new : List ℕ → Option FolderHeld) → Tells (Made path (Some failure)) old new
    → ChangesAt path (IsWritten bytes (Some failure)) old new
unmade path bytes failure old new h dir name named at =
    at_name (LeavesAny name) (Made path (Some failure)) dir (old dir) (new dir) (λ held it made. made name named at) (h dir)

made_empty : (path dir name : List ℕ) → IsFileName name → path ≡ file_path dir name → (old new : Option FolderHeld) → Holds dir (Made path None) old new
    → IsWriting old name [] new
made_empty path dir name named at None new h = h
made_empty path dir name named at (Some old) new (it, made, is) = (it, made.files name named at, made.handle name named at, made.told, is)

put_more : (dir name before bytes : List ℕ) (n : ℕ) (since mid new : Option FolderHeld) → IsWriting since name before mid
    → Holds dir (Wrote bytes (Ok n)) mid new → IsWriting since name (before ++ take n bytes) new
put_more dir name before bytes n None mid new none h = subst (λ m. Holds dir (Wrote bytes (Ok n)) m new) none h
put_more dir name before bytes n (Some since) mid new (it, files, handle, told, is) h =
    let (last, made, ends) = subst (λ m. Holds dir (Wrote bytes (Ok n)) m new) is h in (
      last,
      subst (λ at. Puts bytes (Ok n) at it.files last.files) handle made.files
          ∙ ap (put_file (record { name = name; bytes = before ++ take n bytes })) files
          ∙ put_again name before (before ++ take n bytes) since.files,
      subst (λ at. GoesBehind (take n bytes) at last.handle) handle made.handle,
      made.told ∙ told,
      ends,
    )

left_any : (name before : List ℕ) (since mid new : List StoreFile) → mid ≡ put_file (record { name = name; bytes = before }) since → LeavesAny name mid new
    → LeavesAny name since new
left_any name before since mid new e (inl same) = inr (before, same ∙ e)
left_any name before since mid new e (inr (left, is)) =
    inr (left, is ∙ ap (put_file (record { name = name; bytes = left })) e ∙ put_again name before left since)

put_nothing : (dir name before bytes : List ℕ) (failure : ErrorKind) (since mid new : Option FolderHeld) → IsWriting since name before mid
    → Holds dir (Wrote bytes (Err failure)) mid new → Changes (LeavesAny name) since new
put_nothing dir name before bytes failure None mid new none h = subst (λ m. Holds dir (Wrote bytes (Err failure)) m new) none h
put_nothing dir name before bytes failure (Some since) mid new (it, files, handle, told, is) h =
    let (last, made, ends) = subst (λ m. Holds dir (Wrote bytes (Err failure)) m new) is h in (
      last,
      left_any name before since.files it.files last.files files (subst (λ at. Puts bytes (Err failure) at it.files last.files) handle made.files),
      made.told ∙ told,
      ends,
    )

is_left : (name bytes : List ℕ) (since now : Option FolderHeld) → IsWriting since name bytes now → Changes (LeavesAny name) since now
is_left name bytes None now h = h
is_left name bytes (Some since) now (it, files, handle, told, is) = (it, inr (bytes, files), told, is)

-- what was written so far, and the rest
pub record Onto (bytes rest : List ℕ) (old now : List ℕ → Option FolderHeld) : Type 0 where
  pub front : List ℕ
  pub so_far : front ++ rest ≡ bytes
  pub behind : WritesBehind front None old now

pub onto_begins : (bytes : List ℕ) (old : List ℕ → Option FolderHeld) → Onto bytes bytes old old
onto_begins bytes old = record {
  front = [];
  so_far = refl;
  behind = λ dir name before since h. subst (λ put. IsWriting since name put (old dir)) (sym (append-nil before)) h;
}

pub onto_goes_on : (bytes rest left : List ℕ) (n : ℕ) (old mid new : List ℕ → Option FolderHeld) → left ≡ drop n rest → Onto bytes rest old mid
    → Tells (Wrote rest (Ok n)) mid new → Onto bytes left old new
onto_goes_on bytes rest left n old mid new is h more = record {
  front = h.front ++ take n rest;
  so_far =
      ap (λ xs. (h.front ++ take n rest) ++ xs) is ∙ append_assoc h.front (take n rest) (drop n rest)
      ∙ ap (λ xs. h.front ++ xs) (take-append-drop n rest) ∙ h.so_far;
  behind = λ dir name before since writing.
      subst (λ put. IsWriting since name put (new dir)) (append_assoc before h.front (take n rest))
      (put_more dir name (before ++ h.front) rest n since (mid dir) (new dir) (h.behind dir name before since writing) (more dir));
}

nothing_left : (rest : List ℕ) → length rest ≡ 0 → rest ≡ []
nothing_left [] e = refl
nothing_left (b ∷ rest) e = cc

pub all_put : (bytes rest : List ℕ) (old new : List ℕ → Option FolderHeld) → length rest ≡ 0 → Onto bytes rest old new → WritesBehind bytes None old new
all_put bytes rest old new none h dir name before since writing =
    let all : h.front ≡ bytes = sym (append-nil h.front) ∙ ap (λ xs. h.front ++ xs) (sym (nothing_left rest none)) ∙ h.so_far in
    subst (λ front. IsWriting since name (before ++ front) (new dir)) all (h.behind dir name before since writing)

fails_at : (answer : Result ℕ ErrorKind) (dir name before rest : List ℕ) (since mid new : Option FolderHeld) → IsWriting since name before mid
    → Holds dir (Wrote rest answer) mid new → Changes (LeavesAny name) since new
fails_at (Ok n) dir name before rest since mid new writing h =
    is_left name (before ++ take n rest) since new (put_more dir name before rest n since mid new writing h)
fails_at (Err failure) dir name before rest since mid new writing h = put_nothing dir name before rest failure since mid new writing h

pub some_put : (bytes rest : List ℕ) (answer : Result ℕ ErrorKind) (failure : ErrorKind) (old mid new : List ℕ → Option FolderHeld) → Onto bytes rest old mid
    → Tells (Wrote rest answer) mid new → WritesBehind bytes (Some failure) old new
some_put bytes rest answer failure old mid new h last dir name before since writing =
    fails_at answer dir name (before ++ h.front) rest since (mid dir) (new dir) (h.behind dir name before since writing) (last dir)

ended : (bytes name : List ℕ) (failure : Option ErrorKind) (old new : Option FolderHeld) → EndsWriting old name bytes failure new
    → Changes (IsWritten bytes failure name) old new
ended bytes name None None new h = h
ended bytes name None (Some old) new (it, files, handle, told, is) = (it, files, told, is)
ended bytes name (Some failure) old new h = h

pub put_in : (path bytes : List ℕ) (failure : Option ErrorKind) (old opened mid new : List ℕ → Option FolderHeld) → Tells (Made path None) old opened
    → WritesBehind bytes failure opened mid → Tells Closed mid new → ChangesAt path (IsWritten bytes failure) old new
put_in path bytes failure old opened mid new made written end dir name named at =
    before_nothing (IsWritten bytes failure name) (old dir) (mid dir) (new dir)
    (ended bytes name failure (old dir) (mid dir) (written dir name [] (old dir) (made_empty path dir name named at (old dir) (opened dir) (made dir))))
    (quiet_so Closed (λ dir held files same. same) dir (mid dir) (new dir) (end dir))

-- what is put into a file piece by piece
pub ruleset pieces_put = (onto_begins, onto_goes_on, all_put, some_put)
