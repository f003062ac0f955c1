-- A file that is brought to what it is to hold, as the code asks it.
use Rattle.std.proofs.Common.{ℕ, ◌≡◌, Bool, true, false, List, Some, None, sym, ap, subst}
use Rattle.device_calls.specs.Calls.{Ask, AnswerTo, WriteAside, SyncAside, RenameAside, RemoveFile, Settle}
use Rattle.device_calls.specs.Programs.{Asks, Done, Then}
use Rattle.device_calls.specs.Worlds.{Seen}
use Rattle.device_calls.specs.Does.{Does}
use Rattle.device_calls.proofs.Doing.{does_done, does_then}
use Rattle.turn_model.specs.KeptFiles.{if_done, bringing}

-- ---- a call that wasn't done ends it, and one that was done lets it go on

stops : (ask : Ask) (next : AnswerTo ask → Asks Bool) (done : AnswerTo ask) (old new : Seen) (t u : List ℕ) → next done ≡ Done false
    → Does (Then ask Done) done old new t u → Does (Then ask next) false old new t u
stops ask next done old new t u ends did =
    does_then ask next done false old new new t u u did (subst (λ (asks : Asks Bool). Does asks false new new u u) (sym ends) (does_done false new u))

goes_on : (ask : Ask) (next : AnswerTo ask → Asks Bool) (done : AnswerTo ask) (more : Asks Bool) (result : Bool) (old mid new : Seen) (t u v : List ℕ)
    → next done ≡ more
    → Does (Then ask Done) done old mid t u → Does more result mid new u v → Does (Then ask next) result old new t v
goes_on ask next done more result old mid new t u v is did rest =
    does_then ask next done result old mid new t u v did (subst (λ (asks : Asks Bool). Does asks result mid new u v) (sym is) rest)

-- ---- what is still asked

abbrev pub settling : Asks Bool
settling = Then Settle (λ settled. Done settled)

abbrev pub placing : List ℕ → Asks Bool
placing name = Then (RenameAside name) (λ renamed. if_done renamed settling)

abbrev pub syncing : List ℕ → Asks Bool
syncing name = Then (SyncAside name) (λ synced. if_done synced (placing name))

module _ {old mid : Seen} {t u : List ℕ} (name : List ℕ) where
  pub unwritten : (bytes : List ℕ) (done : Bool) → done ≡ false → Does (Then (WriteAside name bytes) Done) done old mid t u
      → Does (bringing name (Some bytes)) false old mid t u
  unwritten bytes done not_done did =
      stops (WriteAside name bytes) (λ written. if_done written (syncing name)) done old mid t u (ap (λ (d : Bool). if_done d (syncing name)) not_done) did

  pub unsynced : (done : Bool) → done ≡ false → Does (Then (SyncAside name) Done) done old mid t u → Does (syncing name) false old mid t u
  unsynced done not_done did =
      stops (SyncAside name) (λ synced. if_done synced (placing name)) done old mid t u (ap (λ (d : Bool). if_done d (placing name)) not_done) did

  pub unrenamed : (done : Bool) → done ≡ false → Does (Then (RenameAside name) Done) done old mid t u → Does (placing name) false old mid t u
  unrenamed done not_done did =
      stops (RenameAside name) (λ renamed. if_done renamed settling) done old mid t u (ap (λ (d : Bool). if_done d settling) not_done) did

  pub unremoved : (done : Bool) → done ≡ false → Does (Then (RemoveFile name) Done) done old mid t u → Does (bringing name None) false old mid t u
  unremoved done not_done did =
      stops (RemoveFile name) (λ removed. if_done removed settling) done old mid t u (ap (λ (d : Bool). if_done d settling) not_done) did

module _ {old mid new : Seen} {t u v : List ℕ} (name : List ℕ) where
  pub written_then : (bytes : List ℕ) (done result : Bool) → done ≡ true → Does (Then (WriteAside name bytes) Done) done old mid t u
      → Does (syncing name) result mid new u v
      → Does (bringing name (Some bytes)) result old new t v
  written_then bytes done result is_done did rest =
      goes_on (WriteAside name bytes) (λ written. if_done written (syncing name)) done (syncing name) result old mid new t u v
      (ap (λ (d : Bool). if_done d (syncing name)) is_done) did rest

  pub synced_then : (done result : Bool) → done ≡ true → Does (Then (SyncAside name) Done) done old mid t u → Does (placing name) result mid new u v
      → Does (syncing name) result old new t v
  synced_then done result is_done did rest =
      goes_on (SyncAside name) (λ synced. if_done synced (placing name)) done (placing name) result old mid new t u v
      (ap (λ (d : Bool). if_done d (placing name)) is_done) did rest

  pub renamed_then : (done result : Bool) → done ≡ true → Does (Then (RenameAside name) Done) done old mid t u → Does settling result mid new u v
      → Does (placing name) result old new t v
  renamed_then done result is_done did rest =
      goes_on (RenameAside name) (λ renamed. if_done renamed settling) done settling result old mid new t u v
      (ap (λ (d : Bool). if_done d settling) is_done) did rest

  pub removed_then : (done result : Bool) → done ≡ true → Does (Then (RemoveFile name) Done) done old mid t u → Does settling result mid new u v
      → Does (bringing name None) result old new t v
  removed_then done result is_done did rest =
      goes_on (RemoveFile name) (λ removed. if_done removed settling) done settling result old mid new t u v
      (ap (λ (d : Bool). if_done d settling) is_done) did rest
