-- The calls of a saving, a removal and a clearing, as answers to what the loop asks.
use Rattle.std.proofs.Common.{ℕ, ◌≡◌, ◌⊎◌, inl, inr, Bool, true, false, List, [], ◌∷◌, ◌++◌, map, Option, Some, None, refl, sym, ap, subst}
use Rattle.std.specs.String.{string_bytes}
use Rattle.world.specs.StoreCalls.{ListedAsides, RemovedFile, SettledFiles, WroteAside, SyncedAside, RenamedAside}
use Rattle.device_calls.specs.Calls.{Call, Store, SyncAside, RenameAside, Settle}
use Rattle.device_calls.specs.Programs.{Asks, Done, Then, Makes, Answers, calls_with}
use Rattle.lease_file.specs.declared.clearing.Cleared.{Cleared}
use Rattle.lease_file.specs.declared.faults.SaveStep.{SaveStep}
use Rattle.lease_file.specs.declared.faults.SaveStep.TheVariants as step
use Rattle.lease_file.specs.AsideCalls.{SettlesIfAny, listing_calls, removal_calls, settling_calls}
use Rattle.lease_file.specs.Saving.{save_calls, save_calls_to, IsOfSaving, remove_calls, remove_calls_to, IsOfRemoving}
use Rattle.turn_model.specs.KeptFiles.{bringing, if_done}
use Rattle.turn_model.specs.Opening.{clearing, removing}
use Rattle.daemon.specs.SameCalls.{AsksFor, SavesAlike, RemovesAlike, ClearsAlike}

-- ---- saving

-- what is asked after a removal, a renaming, a sync and a writing that were done or not
abbrev settling : Bool → Asks Bool
settling done = if_done done (Then Settle (λ settled. Done settled))

abbrev renaming : (name : List ℕ) → Bool → Asks Bool
renaming name done = if_done done (Then (RenameAside name) settling)

abbrev syncing : (name : List ℕ) → Bool → Asks Bool
syncing name done = if_done done (Then (SyncAside name) (renaming name))

module _ (name bytes : List ℕ) where
  abbrev Saved : List Call → Type 0
  Saved calls =
      (calls ≡ map Store (save_calls name bytes))
      ⊎ ((s : SaveStep) × IsOfSaving s × (calls ≡ map Store (save_calls_to name bytes s)))

  save_failed : (s : SaveStep) → IsOfSaving s → Makes (bringing name (Some bytes)) (map Store (save_calls_to name bytes s)) false
  save_failed step.Write is = record { answers = (false, tt); calls_are = refl; result_is = refl }
  save_failed step.Sync is = record { answers = (true, (false, tt)); calls_are = refl; result_is = refl }
  save_failed step.Rename is = record { answers = (true, (true, (false, tt))); calls_are = refl; result_is = refl }
  save_failed step.Settle is = record { answers = (true, (true, (true, (false, tt)))); calls_are = refl; result_is = refl }
  save_failed step.List is = absurd is
  save_failed step.Remove is = absurd is

  settled_saved : (done : Bool)
      → Saved (Store (WroteAside name bytes true) ∷ Store (SyncedAside name true) ∷ Store (RenamedAside name true)
      ∷ Store (SettledFiles done) ∷ [])
  settled_saved true = inl refl
  settled_saved false = inr (step.Settle, tt, refl)

  renamed_saved : (done : Bool) (rest : Answers (settling done))
      → Saved (Store (WroteAside name bytes true) ∷ Store (SyncedAside name true) ∷ Store (RenamedAside name done)
      ∷ calls_with (settling done) rest)
  renamed_saved true rest = settled_saved rest.0
  renamed_saved false rest = inr (step.Rename, tt, refl)

  synced_saved : (done : Bool) (rest : Answers (renaming name done))
      → Saved (Store (WroteAside name bytes true) ∷ Store (SyncedAside name done) ∷ calls_with (renaming name done) rest)
  synced_saved true rest = renamed_saved rest.0 rest.1
  synced_saved false rest = inr (step.Sync, tt, refl)

  written_saved : (done : Bool) (rest : Answers (syncing name done))
      → Saved (Store (WroteAside name bytes done) ∷ calls_with (syncing name done) rest)
  written_saved true rest = synced_saved rest.0 rest.1
  written_saved false rest = inr (step.Write, tt, refl)

  saves : AsksFor name (Some bytes) (save_calls name bytes) IsOfSaving (save_calls_to name bytes)
  saves =
      record {
        done = record { answers = (true, (true, (true, (true, tt)))); calls_are = refl; result_is = refl };
        failed = save_failed;
        alone = λ calls result m. subst Saved (sym m.calls_are) (written_saved m.answers.0 m.answers.1);
      }

pub saves_alike : SavesAlike
saves_alike name bytes = saves name bytes

-- ---- removing

module _ (name : List ℕ) where
  abbrev Gone : List Call → Type 0
  Gone calls =
      (calls ≡ map Store (remove_calls name))
      ⊎ ((s : SaveStep) × IsOfRemoving s × (calls ≡ map Store (remove_calls_to name s)))

  remove_failed : (s : SaveStep) → IsOfRemoving s → Makes (bringing name None) (map Store (remove_calls_to name s)) false
  remove_failed step.Remove is = record { answers = (false, tt); calls_are = refl; result_is = refl }
  remove_failed step.Settle is = record { answers = (true, (false, tt)); calls_are = refl; result_is = refl }
  remove_failed step.Write is = absurd is
  remove_failed step.Sync is = absurd is
  remove_failed step.Rename is = absurd is
  remove_failed step.List is = absurd is

  settled_gone : (done : Bool) → Gone (Store (RemovedFile name true) ∷ Store (SettledFiles done) ∷ [])
  settled_gone true = inl refl
  settled_gone false = inr (step.Settle, tt, refl)

  removed_gone : (done : Bool) (rest : Answers (settling done))
      → Gone (Store (RemovedFile name done) ∷ calls_with (settling done) rest)
  removed_gone true rest = settled_gone rest.0
  removed_gone false rest = inr (step.Remove, tt, refl)

  removes : AsksFor name None (remove_calls name) IsOfRemoving (remove_calls_to name)
  removes =
      record {
        done = record { answers = (true, (true, tt)); calls_are = refl; result_is = refl };
        failed = remove_failed;
        alone = λ calls result m. subst Gone (sym m.calls_are) (removed_gone m.answers.0 m.answers.1);
      }

pub removes_alike : RemovesAlike
removes_alike name = removes name

-- ---- clearing

abbrev names_of : List Cleared → List (List ℕ)
names_of removed = map (λ (cleared : Cleared). string_bytes cleared.name) removed

removals : (removed : List Cleared) (done : Bool)
    → Makes (removing (names_of removed)) (map Store (removal_calls removed ++ SettledFiles done ∷ [])) tt
removals [] done = record { answers = (done, tt); calls_are = refl; result_is = refl }
removals (cleared ∷ rest) done =
    let more : Makes (removing (names_of rest)) (map Store (removal_calls rest ++ SettledFiles done ∷ [])) tt = removals rest done in
    record {
      answers = (cleared.ok, more.answers);
      calls_are = ap (λ calls. Store (RemovedFile (string_bytes cleared.name) cleared.ok) ∷ calls) more.calls_are;
      result_is = more.result_is;
    }

clears : (removed : List Cleared) (settled : Option Bool) → SettlesIfAny removed settled
    → Makes clearing (map Store (listing_calls (names_of removed) ++ (removal_calls removed ++ settling_calls settled))) tt
clears [] None is = record { answers = (Some [], tt); calls_are = refl; result_is = refl }
clears [] (Some done) is = absurd cc
clears (cleared ∷ rest) None is = absurd is
clears (cleared ∷ rest) (Some done) is =
    let more : Makes (removing (names_of (cleared ∷ rest))) (map Store (removal_calls (cleared ∷ rest) ++ SettledFiles done ∷ [])) tt =
    removals (cleared ∷ rest) done in
    record {
      answers = (Some (names_of (cleared ∷ rest)), more.answers);
      calls_are = ap (λ calls. Store (ListedAsides (Some (names_of (cleared ∷ rest)))) ∷ calls) more.calls_are;
      result_is = more.result_is;
    }

pub clears_alike : ClearsAlike
clears_alike =
    record {
      listed = λ cleared is. clears cleared.removed.items cleared.settled is;
      unlisted = record { answers = (None, tt); calls_are = refl; result_is = refl };
    }
