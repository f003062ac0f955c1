-- What calls of a store that were answered truly make of its files, whether or not it is told which of them fail.
use Rattle.std.proofs.Common.{◌≡◌, ◌⊎◌, inl, inr, ℕ, Bool, true, false, List, [], ◌∷◌, ◌++◌, Option, Some, None, refl, sym, ap, subst, ◌∙◌}
use Rattle.std.specs.Prelude.{if◌then◌else◌}
use Rattle.std.proofs.lemmas.Bool.{false≢true}
use Rattle.world.specs.FileLists.{StoreFile, file_name, file_at}
use Rattle.world.specs.NamedLists.{InNameOrder}
use Rattle.world.specs.SoundStores.{LeavesFiles, was_done}
use Rattle.world.specs.StoreCalls.{StoreCall, StoreTold, Reading, Unread, ListedAsides, ReadFile, WroteAside, SyncedAside, RenamedAside, RemovedFile, SettledFiles, reading_of, files_by, FailedFiles, store_answered}
use Rattle.world.specs.StoreFails.{StoreFails}
use Rattle.file_choices.specs.StoreWalks.{LeavesAsTold, IsTrueOf, Goes}
use Rattle.turn_model.proofs.Bringing.{Changed, unchanged, put_aside, dropped, renamed}

-- a reading gives the file as it stands, or nothing
abbrev pub IsTrue : StoreCall → List StoreFile → Type 0
IsTrue (ReadFile name reading) files = (reading ≡ Unread) ⊎ (reading ≡ reading_of (file_at name files))
IsTrue call files = Unit {0}

abbrev pub FilesGo : List StoreCall → (old new : List StoreFile) → Type 0
FilesGo [] old new = new ≡ old
FilesGo (call ∷ calls) old new = (mid : List StoreFile) × IsTrue call old × LeavesFiles call old mid × FilesGo calls mid new

is_true : (call : StoreCall) (told : StoreTold) → IsTrueOf call told → IsTrue call told.files
is_true (ReadFile name reading) told h = h
is_true (ListedAsides names) told h = tt
is_true (WroteAside name bytes done) told h = tt
is_true (SyncedAside name done) told h = tt
is_true (RenamedAside name done) told h = tt
is_true (RemovedFile name done) told h = tt
is_true (SettledFiles done) told h = tt

-- a failed call that changed nothing
kept_failed : (call : StoreCall) (old new : List StoreFile) → new ≡ old → FailedFiles call old new
kept_failed (ReadFile name reading) old new e = inl e
kept_failed (ListedAsides names) old new e = inl e
kept_failed (WroteAside name bytes done) old new e = inl e
kept_failed (SyncedAside name done) old new e = inl e
kept_failed (RenamedAside name done) old new e = inl e
kept_failed (RemovedFile name done) old new e = inl e
kept_failed (SettledFiles done) old new e = inl e

leaves_by : (b : Bool) (call : StoreCall) (old new : List StoreFile) → was_done call ≡ b → new ≡ (if b then files_by call old else old)
    → LeavesFiles call old new
leaves_by true call old new e h = inl h
leaves_by false call old new e h = inr (e, kept_failed call old new h)

leaves_any : (failing : Option StoreFails) (call : StoreCall) (old new : List StoreFile) → LeavesAsTold failing call old new → LeavesFiles call old new
leaves_any None call old new h = h
leaves_any (Some fails) call old new h = leaves_by (was_done call) call old new refl h

pub files_go : (failing : Option StoreFails) (calls : List StoreCall) (old new : StoreTold) → Goes failing calls old new → FilesGo calls old.files new.files
files_go failing [] old new h = ap (λ (t : StoreTold). t.files) h
files_go failing (call ∷ calls) old new (files, answered, more) = (
  files,
  is_true call old answered.truly,
  leaves_any failing call old.files files answered.leaves,
  files_go failing calls (store_answered call files old) new more,
)

-- ---- calls in parts

pub record FilesSplit (a b : List StoreCall) (old new : List StoreFile) : Type 0 where
  pub mid : List StoreFile
  pub first : FilesGo a old mid
  pub later : FilesGo b mid new

pub files_split : (a b : List StoreCall) (old new : List StoreFile) → FilesGo (a ++ b) old new → FilesSplit a b old new
files_split [] b old new h = record { mid = old; first = refl; later = h }
files_split (call ∷ a) b old new (files, truly, leaves, h) =
    let rest = files_split a b files new h in
    record { mid = rest.mid; first = (files, truly, leaves, rest.first); later = rest.later }

-- what a store told in between
pub record StoreSplit (failing : Option StoreFails) (a b : List StoreCall) (old new : StoreTold) : Type 0 where
  pub mid : StoreTold
  pub first : Goes failing a old mid
  pub later : Goes failing b mid new

pub goes_split : (failing : Option StoreFails) (a b : List StoreCall) (old new : StoreTold) → Goes failing (a ++ b) old new → StoreSplit failing a b old new
goes_split failing [] b old new h = record { mid = old; first = refl; later = h }
goes_split failing (call ∷ a) b old new (files, answered, h) =
    let rest = goes_split failing a b (store_answered call files old) new h in
    record { mid = rest.mid; first = (files, answered, rest.first); later = rest.later }

pub goes_more : (failing : Option StoreFails) (a b : List StoreCall) (old mid new : StoreTold) → Goes failing a old mid → Goes failing b mid new
    → Goes failing (a ++ b) old new
goes_more failing [] b old mid new p q = subst (λ (m : StoreTold). Goes failing b m new) p q
goes_more failing (call ∷ a) b old mid new (files, answered, p) q = (
  files,
  answered,
  goes_more failing a b (store_answered call files old) mid new p q,
)

-- ---- one call

-- a call that was done left the files as it makes them
pub as_made : (call : StoreCall) (old new : List StoreFile) → LeavesFiles call old new → was_done call ≡ true → new ≡ files_by call old
as_made call old new (inl e) done = e
as_made call old new (inr failed) done = absurd (false≢true (sym failed.0 ∙ done))

abbrev as_before : (name : List ℕ) (old mid new : List StoreFile) → Changed name old mid → new ≡ mid → Changed name old new
as_before name old mid new changed e = subst (λ (files : List StoreFile). Changed name old files) (sym e) changed

-- a call about one file changes that and its aside alone
pub wrote : (name bytes : List ℕ) (done : Bool) (old new : List StoreFile) → LeavesFiles (WroteAside name bytes done) old new → Changed name old new
wrote name bytes done old new (inl e) = as_before name old _ new (put_aside name bytes old) e
wrote name bytes done old new (inr (failed, inl e)) = as_before name old old new (unchanged name old) e
wrote name bytes done old new (inr (failed, inr (left, e))) = as_before name old _ new (put_aside name left old) e

-- a call that changes no file
pub stays : (call : StoreCall) (old new : List StoreFile) → files_by call old ≡ old → (FailedFiles call old new → (new ≡ old) ⊎ (new ≡ files_by call old))
    → LeavesFiles call old new → new ≡ old
stays call old new same either (inl e) = e ∙ same
stays call old new same either (inr failed) = by (either failed.1)
  where
    by : (new ≡ old) ⊎ (new ≡ files_by call old) → new ≡ old
    by (inl e) = e
    by (inr e) = e ∙ same

pub synced : (name : List ℕ) (done : Bool) (old new : List StoreFile) → LeavesFiles (SyncedAside name done) old new → new ≡ old
synced name done old new h = stays (SyncedAside name done) old new refl (λ failed. failed) h

pub settled : (done : Bool) (old new : List StoreFile) → LeavesFiles (SettledFiles done) old new → new ≡ old
settled done old new h = stays (SettledFiles done) old new refl (λ failed. failed) h

pub was_read : (name : List ℕ) (reading : Reading) (old new : List StoreFile) → LeavesFiles (ReadFile name reading) old new → new ≡ old
was_read name reading old new h = stays (ReadFile name reading) old new refl (λ failed. failed) h

pub put_in_place : (name : List ℕ) (done : Bool) (old new : List StoreFile) → LeavesFiles (RenamedAside name done) old new → Changed name old new
put_in_place name done old new (inl e) = as_before name old _ new (renamed name _ old) e
put_in_place name done old new (inr (failed, inl e)) = as_before name old old new (unchanged name old) e
put_in_place name done old new (inr (failed, inr e)) = as_before name old _ new (renamed name _ old) e

pub was_removed : (name : List ℕ) (done : Bool) (old new : List StoreFile) → LeavesFiles (RemovedFile name done) old new → Changed name old new
was_removed name done old new (inl e) = as_before name old _ new (dropped name old) e
was_removed name done old new (inr (failed, inl e)) = as_before name old old new (unchanged name old) e
was_removed name done old new (inr (failed, inr e)) = as_before name old _ new (dropped name old) e

-- ---- files stay in order

stays_in_order : (call : StoreCall) (old new : List StoreFile) → LeavesFiles call old new → InNameOrder file_name old → InNameOrder file_name new
stays_in_order (ListedAsides names) old new h order =
    subst (InNameOrder file_name) (sym (stays (ListedAsides names) old new refl (λ failed. failed) h)) order
stays_in_order (ReadFile name reading) old new h order = subst (InNameOrder file_name) (sym (was_read name reading old new h)) order
stays_in_order (WroteAside name bytes done) old new h order = (wrote name bytes done old new h).order order
stays_in_order (SyncedAside name done) old new h order = subst (InNameOrder file_name) (sym (synced name done old new h)) order
stays_in_order (RenamedAside name done) old new h order = (put_in_place name done old new h).order order
stays_in_order (RemovedFile name done) old new h order = (was_removed name done old new h).order order
stays_in_order (SettledFiles done) old new h order = subst (InNameOrder file_name) (sym (settled done old new h)) order

pub all_in_order : (calls : List StoreCall) (old new : List StoreFile) → FilesGo calls old new → InNameOrder file_name old → InNameOrder file_name new
all_in_order [] old new h order = subst (InNameOrder file_name) (sym h) order
all_in_order (call ∷ calls) old new (mid, truly, leaves, h) order = all_in_order calls mid new h (stays_in_order call old mid leaves order)
