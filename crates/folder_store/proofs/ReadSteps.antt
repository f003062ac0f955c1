-- What the system's calls give of a folder's files and names, one after another.
use Rattle.std.proofs.Common.{◌≡◌, ℕ, Bool, true, false, List, [], ◌∷◌, ◌++◌, filter, Option, None, Some, Result, Ok, Err, take, append_assoc, append-nil, true≢false, refl, sym, ap, subst, ◌∙◌}
use Rattle.std.proofs.lemmas.List.Elements.{filter-append}
use Rattle.std.specs.declared.io.ErrorKind.{ErrorKind}
use Rattle.world.specs.declared.faults.DeviceAnswer.{DeviceAnswer}
use Rattle.world.specs.FileNames.{IsFileName}
use Rattle.world.specs.FileLists.{file_name, file_at}
use Rattle.world.specs.NamedLists.{InNameOrder}
use Rattle.world.specs.StoreCalls.{Appended}
use Rattle.system_calls.specs.DiskCalls.{Opened, Read, Listed, Named, is_missing, is_no_text}
use Rattle.system_calls.specs.DiskFiles.{FolderHeld, Gives, ListsName, AreAll, Holds, Tells}
use Rattle.folder_store.specs.FolderCalls.{IsUnopened, is_aside_name}
use Rattle.folder_store.specs.FolderFiles.{Changes, AsBefore, KeepsFiles, ChangesAt, HasToRead, AppendsRest, ReadsRest, IsRead, HasListed, HasAll, ListsMore, ListsOneMore, AppendsRestOfNames, FindsAsides}
use Rattle.system_calls.specs.Paths.{file_path}
use Rattle.folder_store.proofs.FileSteps.{stays, after_nothing, quiet_so, unopened}

pub kept_by_all : (old mid new : List ℕ → Option FolderHeld) → KeepsFiles old mid → KeepsFiles mid new → KeepsFiles old new
kept_by_all old mid new h after dir = after_nothing AsBefore (old dir) (mid dir) (new dir) (h dir) (after dir)

piece_keeps : (answer : Result (List ℕ) ErrorKind) (old new : List ℕ → Option FolderHeld) → Tells (Read answer) old new → KeepsFiles old new
piece_keeps answer old new h dir = quiet_so (Read answer) (λ dir held files same. same) dir (old dir) (new dir) (h dir)

pub name_keeps : (answer : Result (Option (List ℕ)) ErrorKind) (old new : List ℕ → Option FolderHeld) → Tells (Named answer) old new → KeepsFiles old new
name_keeps answer old new h dir = quiet_so (Named answer) (λ dir held files same. same) dir (old dir) (new dir) (h dir)

pub listing_keeps : (path : List ℕ) (failure : Option ErrorKind) (old new : List ℕ → Option FolderHeld) → Tells (Listed path failure) old new
    → KeepsFiles old new
listing_keeps path failure old new h dir = quiet_so (Listed path failure) (λ dir held files same. same) dir (old dir) (new dir) (h dir)

-- ---- reading

-- what is still to be read
abbrev Left : (before after : List ℕ) → Option (List ℕ) → Option FolderHeld → Type 0
Left before after None now = HasToRead None now
Left before after (Some rest) now = (more : List ℕ) × (after ++ more ≡ before ++ rest) × HasToRead (Some more) now

-- what was read so far
pub record ReadSoFar (old now : List ℕ → Option FolderHeld) (before after : List ℕ) : Type 0 where
  pub keeps : KeepsFiles old now
  pub so_far : (dir : List ℕ) (rest : Option (List ℕ)) → HasToRead rest (old dir) → Left before after rest (now dir)

all_left : (before : List ℕ) (rest : Option (List ℕ)) (now : Option FolderHeld) → HasToRead rest now → Left before before rest now
all_left before None now h = h
all_left before (Some rest) now h = (rest, refl, h)

pub read_begins : (old : List ℕ → Option FolderHeld) (before : List ℕ) → ReadSoFar old old before before
read_begins old before = record {
  keeps = λ dir. stays (old dir);
  so_far = λ dir rest h. all_left before rest (old dir) h;
}

-- what one piece leaves
record LeftByOne (bytes rest : List ℕ) (now : Option FolderHeld) : Type 0 where
  more : List ℕ
  whole : rest ≡ bytes ++ more
  at_end : bytes ≡ [] → more ≡ []
  to_read : HasToRead (Some more) now

one_piece : (dir bytes rest : List ℕ) (old new : Option FolderHeld) → HasToRead (Some rest) old → Holds dir (Read (Ok bytes)) old new → LeftByOne bytes rest new
one_piece dir bytes rest None new h tells = absurd h
one_piece dir bytes rest (Some old) new h (it, made, is) =
    let (more, whole, at_end, place) = subst (λ handle. Gives bytes handle it.handle) h made.handle in
    record { more = more; whole = whole; at_end = at_end; to_read = subst (λ now. HasToRead (Some more) now) (sym is) place }

-- no piece is read of a folder
no_piece : (dir bytes : List ℕ) (old new : Option FolderHeld) → HasToRead None old → Holds dir (Read (Ok bytes)) old new → ⊥
no_piece dir bytes None new h tells = h
no_piece dir bytes (Some old) new h (it, made, is) = subst (λ handle. Gives bytes handle it.handle) h made.handle

left_after : (dir before after next bytes : List ℕ) (rest : Option (List ℕ)) (mid new : Option FolderHeld) → next ≡ after ++ bytes → Left before after rest mid
    → Holds dir (Read (Ok bytes)) mid new → Left before next rest new
left_after dir before after next bytes None mid new is left last = absurd (no_piece dir bytes mid new left last)
left_after dir before after next bytes (Some rest) mid new is (more, whole, to_read) last =
    let one = one_piece dir bytes more mid new to_read last in (
      one.more,
      ap (λ xs. xs ++ one.more) is ∙ append_assoc after bytes one.more ∙ ap (λ xs. after ++ xs) (sym one.whole) ∙ whole,
      one.to_read,
    )

pub read_goes_on : (old mid new : List ℕ → Option FolderHeld) (before after next bytes : List ℕ) → next ≡ after ++ bytes → ReadSoFar old mid before after
    → Tells (Read (Ok bytes)) mid new → ReadSoFar old new before next
read_goes_on old mid new before after next bytes is h last = record {
  keeps = kept_by_all old mid new h.keeps (piece_keeps (Ok bytes) mid new last);
  so_far = λ dir rest begun. left_after dir before after next bytes rest (mid dir) (new dir) is (h.so_far dir rest begun) (last dir);
}

at_end : (dir before after bytes : List ℕ) (rest : Option (List ℕ)) (mid new : Option FolderHeld) → bytes ≡ [] → Left before after rest mid
    → Holds dir (Read (Ok bytes)) mid new → Appended rest before after true
at_end dir before after bytes None mid new nothing left last = absurd (no_piece dir bytes mid new left last)
at_end dir before after bytes (Some rest) mid new nothing (more, whole, to_read) last =
    let one = one_piece dir bytes more mid new to_read last in
    let ends : more ≡ [] = one.whole ∙ ap (λ xs. xs ++ one.more) nothing ∙ one.at_end nothing in
    (refl, sym (append-nil after) ∙ ap (λ xs. after ++ xs) (sym ends) ∙ whole)

pub read_all : (old mid new : List ℕ → Option FolderHeld) (before after buffer : List ℕ) (n : ℕ) → n ≡ 0 → ReadSoFar old mid before after
    → Tells (Read (Ok (take n buffer))) mid new → AppendsRest old before after
read_all old mid new before after buffer n none h last dir rest begun =
    at_end dir before after (take n buffer) rest (mid dir) (new dir) (ap (λ n. take n buffer) none) (h.so_far dir rest begun) (last dir)

pub read_keeps : (answer : Result (List ℕ) ErrorKind) (old mid new : List ℕ → Option FolderHeld) (before after : List ℕ) → ReadSoFar old mid before after
    → Tells (Read answer) mid new → KeepsFiles old new
read_keeps answer old mid new before after h last = kept_by_all old mid new h.keeps (piece_keeps answer mid new last)

-- ---- a file, from its opening

whole_file : (path dir name : List ℕ) → IsFileName name → path ≡ file_path dir name → (start opened mid : Option FolderHeld) (before after : List ℕ)
    → Holds dir (Opened path None) start opened → Changes AsBefore opened mid
    → ((rest : Option (List ℕ)) → HasToRead rest opened → Appended rest before after true) → Changes (IsRead before after (Ok true) name) start mid
whole_file path dir name named at None opened mid before after h kept reads = subst (λ m. Changes AsBefore m mid) h kept
whole_file path dir name named at (Some start) opened mid before after (it, made, is) kept reads =
    let (last, same, told, ends) = subst (λ m. Changes AsBefore m mid) is kept in (
      last,
      (same ∙ made.files, reads (file_at name start.files) (subst (λ now. HasToRead (file_at name start.files) now) (sym is) (made.handle name named at))),
      told ∙ made.told,
      ends,
    )

pub file_read : (path : List ℕ) (before after : List ℕ) (result : Result Bool DeviceAnswer) (old opened new : List ℕ → Option FolderHeld)
    → Tells (Opened path None) old opened → KeepsFiles opened new → ReadsRest opened before after result → ChangesAt path (IsRead before after result) old new
file_read path before after (Ok true) old opened new h kept reads dir name named at =
    whole_file path dir name named at (old dir) (opened dir) (new dir) before after (h dir) (kept dir) (λ rest to_read. reads.1 dir rest to_read)
file_read path before after (Ok false) old opened new h kept reads dir name named at = absurd (true≢false (sym reads.0))
file_read path before after (Err answer) old opened new h kept reads dir name named at =
    kept_by_all old opened new (unopened path None old opened h) kept dir

missing_file : (path dir name : List ℕ) (failure : ErrorKind) → IsFileName name → path ≡ file_path dir name → is_missing failure ≡ true → (before : List ℕ)
    (start new : Option FolderHeld) → Holds dir (Opened path (Some failure)) start new → Changes (IsRead before before (Ok false) name) start new
missing_file path dir name failure named at is before None new h = h
missing_file path dir name failure named at is before (Some start) new (it, made, ends) =
    (it, (made.files, subst (λ content. Appended content before before false) (sym (made.handle name named at is)) (refl, refl)), made.told, ends)

pub file_unread : (path : List ℕ) (failure : ErrorKind) (before : List ℕ) (result : Result Bool DeviceAnswer) (old new : List ℕ → Option FolderHeld)
    → Tells (Opened path (Some failure)) old new → IsUnopened failure result → ChangesAt path (IsRead before before result) old new
file_unread path failure before (Ok true) old new h is dir name named at = absurd is
file_unread path failure before (Ok false) old new h is dir name named at = missing_file path dir name failure named at is before (old dir) (new dir) (h dir)
file_unread path failure before (Err answer) old new h is dir name named at = unopened path (Some failure) old new h dir

-- ---- listing

-- what was listed so far
pub record ListSoFar (old now : List ℕ → Option FolderHeld) (before after : List (List ℕ)) : Type 0 where
  pub keeps : KeepsFiles old now
  pub so_far : (dir : List ℕ) (names : List (List ℕ)) → HasListed names (old dir) → ListsMore (λ all. HasListed all (now dir)) names before after

-- nothing more is listed
no_more : (is_so : List (List ℕ) → Type 0) (names before : List (List ℕ)) → is_so names → ListsMore is_so names before before
no_more is_so names before h = record { more = []; appended = sym (append-nil before); listed = subst is_so (sym (append-nil names)) h }

pub list_begins : (old : List ℕ → Option FolderHeld) (before : List (List ℕ)) → ListSoFar old old before before
list_begins old before = record {
  keeps = λ dir. stays (old dir);
  so_far = λ dir names h. no_more (λ all. HasListed all (old dir)) names before h;
}

both : (is_so then_so : List (List ℕ) → Type 0) (names before mid after : List (List ℕ)) → ListsMore is_so names before mid
    → ((all : List (List ℕ)) → is_so all → ListsMore then_so all mid after) → ListsMore then_so names before after
both is_so then_so names before mid after h next =
    let last = next (names ++ h.more) h.listed in
    record {
      more = h.more ++ last.more;
      appended =
          last.appended ∙ ap (λ xs. xs ++ filter is_aside_name last.more) h.appended
          ∙ append_assoc before (filter is_aside_name h.more) (filter is_aside_name last.more)
          ∙ ap (λ xs. before ++ xs) (sym (filter-append is_aside_name h.more last.more));
      listed = subst then_so (append_assoc names h.more last.more) last.listed;
    }

pub list_goes_on : (old mid new : List ℕ → Option FolderHeld) (before after next : List (List ℕ)) → ListSoFar old mid before after → KeepsFiles mid new
    → ListsOneMore mid new after next (Ok true) → ListSoFar old new before next
list_goes_on old mid new before after next h kept one = record {
  keeps = kept_by_all old mid new h.keeps kept;
  so_far = λ dir names begun.
      both (λ all. HasListed all (mid dir)) (λ all. HasListed all (new dir)) names before after next (h.so_far dir names begun) (one dir);
}

of_old : (names : List (List ℕ)) (old now : Option FolderHeld) → Changes AsBefore old now → HasAll names now → HasAll names old
of_old names None now kept h = subst (λ m. HasAll names m) kept h
of_old names (Some old) now (it, same, told, is) h = subst (λ files. AreAll names files) same (subst (λ m. HasAll names m) is h)

pub list_ends : (old mid new : List ℕ → Option FolderHeld) (before after last : List (List ℕ)) → last ≡ after → ListSoFar old mid before after
    → ListsOneMore mid new after last (Ok false) → AppendsRestOfNames old before last
list_ends old mid new before after last same h one dir names begun =
    let all = both (λ all. HasListed all (mid dir)) (λ all. HasAll all (old dir)) names before after after (h.so_far dir names begun)
    (λ all listed. no_more (λ all. HasAll all (old dir)) all after (of_old all (old dir) (mid dir) (h.keeps dir) (one dir all listed))) in
    record { more = all.more; appended = same ∙ all.appended; listed = all.listed }

pub list_keeps : (old mid new : List ℕ → Option FolderHeld) (before after : List (List ℕ)) → ListSoFar old mid before after → KeepsFiles mid new
    → KeepsFiles old new
list_keeps old mid new before after h kept = kept_by_all old mid new h.keeps kept

one_name : (dir name : List ℕ) (names before after : List (List ℕ)) (old new : Option FolderHeld) → after ≡ before ++ filter is_aside_name (name ∷ [])
    → Holds dir (Named (Ok (Some name))) old new → HasListed names old → ListsMore (λ all. HasListed all new) names before after
one_name dir name names before after None new is h listed = absurd listed
one_name dir name names before after (Some old) new is (it, made, ends) listed = record {
  more = name ∷ [];
  appended = is;
  listed =
      subst (λ now. HasListed (names ++ name ∷ []) now) (sym ends) (subst (λ handle. ListsName (Ok (Some name)) handle it.handle old.files) listed made.handle);
}

pub name_listed : (old new : List ℕ → Option FolderHeld) (name : List ℕ) (before after : List (List ℕ)) → after ≡ before ++ filter is_aside_name (name ∷ [])
    → Tells (Named (Ok (Some name))) old new → ListsOneMore old new before after (Ok true)
name_listed old new name before after is h dir names listed = one_name dir name names before after (old dir) (new dir) is (h dir) listed

no_text : (dir : List ℕ) (names before : List (List ℕ)) (failure : ErrorKind) (old new : Option FolderHeld) → is_no_text failure ≡ true
    → Holds dir (Named (Err failure)) old new → HasListed names old → ListsMore (λ all. HasListed all new) names before before
no_text dir names before failure None new is h listed = absurd listed
no_text dir names before failure (Some old) new is (it, made, ends) listed =
    no_more (λ all. HasListed all new) names before
    (subst (λ now. HasListed names now) (sym ends) (subst (λ handle. ListsName (Err failure) handle it.handle old.files) listed made.handle is))

pub name_passed : (old new : List ℕ → Option FolderHeld) (failure : ErrorKind) (before : List (List ℕ)) → is_no_text failure ≡ true
    → Tells (Named (Err failure)) old new → ListsOneMore old new before before (Ok true)
name_passed old new failure before is h dir names listed = no_text dir names before failure (old dir) (new dir) is (h dir) listed

last_name : (dir : List ℕ) (names : List (List ℕ)) (old new : Option FolderHeld) → Holds dir (Named (Ok None)) old new → HasListed names old → HasAll names old
last_name dir names None new h listed = absurd listed
last_name dir names (Some old) new (it, made, ends) listed = subst (λ handle. ListsName (Ok None) handle it.handle old.files) listed made.handle

pub names_end : (old new : List ℕ → Option FolderHeld) (before : List (List ℕ)) → Tells (Named (Ok None)) old new
    → ListsOneMore old new before before (Ok false)
names_end old new before h dir names listed = last_name dir names (old dir) (new dir) (h dir) listed

begun_list : (dir : List ℕ) (start begun : Option FolderHeld) (found : List (List ℕ)) → Holds dir (Listed dir None) start begun
    → ((names : List (List ℕ)) → HasListed names begun → ListsMore (λ all. HasAll all begun) names [] found) → FindsAsides start found
begun_list dir None begun found h rest = tt
begun_list dir (Some start) begun found (it, made, is) rest =
    let all = rest [] (subst (λ now. HasListed [] now) (sym is) (made.handle refl)) in (
      all.more,
      subst (λ files. AreAll all.more files) made.files (subst (λ now. HasAll all.more now) is all.listed),
      subst (λ files. InNameOrder file_name files) made.files made.in_order,
      all.appended,
    )

pub asides_found : (dir : List ℕ) (old begun : List ℕ → Option FolderHeld) (found : List (List ℕ)) → Tells (Listed dir None) old begun
    → AppendsRestOfNames begun [] found → FindsAsides (old dir) found
asides_found dir old begun found h rest = begun_list dir (old dir) (begun dir) found (h dir) (λ names listed. rest dir names listed)

-- what a further name says of the folder
pub ruleset names_held = (name_keeps, name_listed, name_passed, names_end)

-- what the listed names say of the folder
pub ruleset lists_held = (list_begins, list_goes_on, list_ends, list_keeps)
