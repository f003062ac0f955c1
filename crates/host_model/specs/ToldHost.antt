-- What a host that tells its rows, and which of its calls fail, answers in a turn.
use Rattle.std.specs.Prelude.{ℕ, ◌≡◌, ◌+◌, Bool, true, false, not, List, [], ◌∷◌, length, Option, Some, None}
use Rattle.world.specs.Causes.{has_number}
use Rattle.world.specs.declared.rows.HostRow.{HostRow}
use Rattle.world.specs.HostCalls.{HostTold, Listed, host_answered}
use Rattle.host_model.specs.declared.changes.HostChange.{HostChange}
use Rattle.settings.specs.declared.interfaces.Managed.{Managed}
use Rattle.host_model.specs.HostTurn.{HostMet, change_call, applied, changes_from, learnt}

-- whether the host's next call fails
abbrev pub fails_next : List ℕ → HostTold → Bool
fails_next failing told = has_number failing (length told.calls + 1)

-- an answer, and what the host tells then
pub record HostStep (A : Type 0) : Type 0 where
  pub answer : A
  pub told : HostTold

abbrev pub listing_from : Bool → HostTold → HostStep (Option (List HostRow))
listing_from true told = record { answer = None; told = host_answered (Listed None) told.rows told }
listing_from false told =
    record { answer = Some told.rows; told = host_answered (Listed (Some told.rows)) told.rows told }

abbrev pub told_listing : List ℕ → Option (List HostRow) → HostTold → HostStep (Option (List HostRow))
told_listing failing (Some known) told = record { answer = None; told = told }
told_listing failing None told = listing_from (fails_next failing told) told

abbrev pub told_listing_for : Option (List HostRow) → List ℕ → HostTold → HostStep (Option (List HostRow))
told_listing_for known failing told = told_listing failing known told

abbrev pub change_from : Bool → HostChange → HostTold → HostTold
change_from true change told = host_answered (change_call change false) told.rows told
change_from false change told = host_answered (change_call change true) (applied change told.rows) told

abbrev pub told_change : HostChange → List ℕ → HostTold → HostStep Bool
told_change change failing told =
    record { answer = not (fails_next failing told); told = change_from (fails_next failing told) change told }

abbrev pub told_changes : List ℕ → List HostChange → HostTold → HostStep (List Bool)
told_changes failing [] told = record { answer = []; told = told }
told_changes failing (change ∷ rest) told =
    let more = told_changes failing rest (change_from (fails_next failing told) change told) in
    record { answer = not (fails_next failing told) ∷ more.answer; told = more.told }

abbrev pub told_changes_for : List HostChange → List ℕ → HostTold → HostStep (List Bool)
told_changes_for changes failing told = told_changes failing changes told

-- the host calls of a turn
abbrev pub told_host : List Managed → List ℕ → Option (List HostRow) → List HostRow → HostTold → HostStep HostMet
told_host managed failing known wanted told =
    let listing = told_listing failing known told in
    let outcomes = told_changes failing (changes_from (learnt managed known listing.answer) wanted) listing.told in
    record { answer = record { listing = listing.answer; outcomes = outcomes.answer }; told = outcomes.told }

abbrev pub told_host_for : List Managed → Option (List HostRow) → List HostRow → List ℕ → HostTold → HostStep HostMet
told_host_for managed known wanted failing told = told_host managed failing known wanted told

-- Where the host tells what it holds and which calls fail, what it answers and what it tells then are determined.
abbrev pub Determined : {A : Type 0} → (List ℕ → HostTold → HostStep A) → Option (List ℕ) → Option HostTold → A
    → Option HostTold → Type 0
Determined step None None answer new = new ≡ None
Determined step (Some failing) None answer new = new ≡ None
Determined step None (Some told) answer new = Unit {0}
Determined step (Some failing) (Some told) answer new =
    (answer ≡ (step failing told).answer) × (new ≡ Some (step failing told).told)
