-- Clearing the asides of a store: a listing, a removal of each, and a settling where there was one.
use Rattle.std.specs.Prelude.{ℕ, Bool, true, false, not, ◌||◌, ◌≡◌, ◌<◌, List, [], ◌∷◌, ◌++◌, map, Option, Some, None, Result, Ok, Err, String}
use Rattle.std.specs.Global.{Global}
use Rattle.std.specs.List.{list_any}
use Rattle.std.specs.String.{string_bytes}
use Rattle.world.specs.StoreFails.{StoreFails, fails_at}
use Rattle.world.specs.StoreCalls.{StoreTold, StoreCall, ListedAsides, RemovedFile, SettledFiles}
use Rattle.file_choices.specs.StoreWalks.{Answered}
use Rattle.lease_file.specs.ToldStore.{told_files, told_calls, with_calls}
use Rattle.lease_file.specs.declared.clearing.Cleared.{Cleared}
use Rattle.lease_file.specs.declared.clearing.Clearing.{Clearing}
use Rattle.lease_file.specs.declared.faults.SaveStep.TheVariants as step
use Rattle.lease_file.specs.declared.faults.SaveFault.{SaveFault}
use Rattle.lease_file.specs.declared.faults.SaveFault.TheVariants.{Failed, NoMemory}

-- Only a failed listing refuses, and only where the count of faults rose.
abbrev pub HasListingCause : {T : Type 0} → ℕ → ℕ → Result T SaveFault → Type 0
HasListingCause old new (Ok x) = Unit {0}
HasListingCause old new (Err (Failed call)) = (call ≡ step.List) × (old < new)
HasListingCause old new (Err NoMemory) = Unit {0}

abbrev pub any_left : List Cleared → Bool
any_left removed = list_any (λ cleared. not cleared.ok) removed

abbrev pub is_unsettled : Option Bool → Bool
is_unsettled None = false
is_unsettled (Some done) = not done

-- Nor does a removal or the settling fail where the count didn't rise.
abbrev pub HasClearingCause : ℕ → ℕ → Result Clearing SaveFault → Type 0
HasClearingCause old new (Ok clearing) =
    (any_left clearing.removed.items || is_unsettled clearing.settled) ≡ true → old < new
HasClearingCause old new (Err fault) = HasListingCause {T = Clearing} old new (Err fault)

-- Where it is told which calls fail, the listing refuses exactly where its number is told.
abbrev pub IsListingForetold : {T : Type 0} → Option StoreFails → ℕ → Result T SaveFault → Type 0
IsListingForetold None number result = Unit {0}
IsListingForetold (Some failing) number (Ok x) = fails_at failing number ≡ false
IsListingForetold (Some failing) number (Err (Failed call)) = fails_at failing number ≡ true
IsListingForetold (Some failing) number (Err NoMemory) = Unit {0}

-- no call of the store refused
abbrev pub FailsNothing : {T : Type 0} → Result T SaveFault → Type 0
FailsNothing (Ok x) = Unit {0}
FailsNothing (Err (Failed call)) = ⊥
FailsNothing (Err NoMemory) = Unit {0}

-- nothing was removed, and nothing settled
abbrev pub ClearsNothing : Clearing → Type 0
ClearsNothing clearing = (clearing.removed.items ≡ []) × (clearing.settled ≡ None)

-- Removals are settled, where there was one.
abbrev pub SettlesIfAny : {T : Type 0} → List T → Option Bool → Type 0
SettlesIfAny [] settled = settled ≡ None
SettlesIfAny (x ∷ xs) None = ⊥
SettlesIfAny (x ∷ xs) (Some done) = Unit {0}

-- the calls with their answers
abbrev pub listing_calls : List (List ℕ) → List StoreCall
listing_calls names = ListedAsides (Some names) ∷ []

abbrev pub removal_calls : List Cleared → List StoreCall
removal_calls removed = map (λ cleared. RemovedFile (string_bytes cleared.name) cleared.ok) removed

abbrev pub settling_calls : Option Bool → List StoreCall
settling_calls None = []
settling_calls (Some done) = SettledFiles done ∷ []

abbrev pub cleared_calls : Clearing → List StoreCall
cleared_calls clearing =
    listing_calls (map (λ cleared. string_bytes cleared.name) clearing.removed.items)
    ++ (removal_calls clearing.removed.items ++ settling_calls clearing.settled)

-- A refusal is a failed listing, and left the files.
abbrev pub TellsRefusal : {T : Type 0} → Option StoreTold → Option StoreTold → Result T SaveFault → Type 0
TellsRefusal old new (Ok x) = Unit {0}
TellsRefusal old new (Err (Failed call)) =
    (told_calls new ≡ with_calls (ListedAsides None ∷ []) (told_calls old)) × (told_files new ≡ told_files old)
TellsRefusal old new (Err NoMemory) = Unit {0}

-- ---- where memory ran out, or the listing failed

-- the listing failed, or wasn't made
abbrev pub BeginsListing : Option StoreFails → Option StoreTold → Option StoreTold → SaveFault → Type 0
BeginsListing failing old new (Failed call) = Answered failing (ListedAsides None ∷ []) old new
BeginsListing failing old new NoMemory = new ≡ old

-- some of these were removed, or tried, in their order
pub record BeginsRemovals (failing : Option StoreFails) (names : List (String Global))
    (old new : Option StoreTold) : Type 0 where
  pub removed : List Cleared
  pub rest : List (String Global)
  pub named : map (λ cleared. cleared.name) removed ++ rest ≡ names
  pub answered : Answered failing (removal_calls removed) old new
