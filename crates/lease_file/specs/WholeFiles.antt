-- What a crash may leave of the files at each moment of a saving, a removal or a clearing, from every store and
-- whatever fails.
use Rattle.std.specs.Prelude.{ℕ, ◌≡◌, ◌⊎◌, true, false, List, take, Option, Some, None}
use Rattle.std.specs.List.{AllByRecursion}
use Rattle.std.specs.String.{string_bytes}
use Rattle.world.specs.FileNames.{aside_of, is_name}
use Rattle.world.specs.FileLists.{is_aside}
use Rattle.world.specs.StoreFails.{StoreFails}
use Rattle.world.specs.StoreCalls.{StoreTold, StoreCall, ListedAsides, ReadFile, WroteAside, SyncedAside, RenamedAside, RemovedFile, SettledFiles}
use Rattle.file_choices.specs.StoreWalks.{Goes}
use Rattle.file_choices.specs.LeftWhole.{MayLeave, Stays}
use Rattle.lease_file.specs.declared.clearing.Cleared.{Cleared}
use Rattle.lease_file.specs.declared.clearing.Clearing.{Clearing}
use Rattle.lease_file.specs.declared.faults.SaveStep.{SaveStep}
use Rattle.lease_file.specs.AsideCalls.{cleared_calls}
use Rattle.lease_file.specs.Saving.{save_calls, save_calls_to, remove_calls, remove_calls_to}

-- a file of which a crash leaves what it might have left before or the new content, and nothing else
abbrev pub StaysOrBecomes : (name : List ℕ) → (content : Option (List ℕ)) → StoreTold → StoreTold → Type 0
StaysOrBecomes name content before after =
    (left : Option (List ℕ)) → MayLeave after name left → MayLeave before name left ⊎ (left ≡ content)

-- a file of which a crash leaves this content alone
abbrev pub IsLeft : (name : List ℕ) → (content : Option (List ℕ)) → StoreTold → Type 0
IsLeft name content told = (left : Option (List ℕ)) → MayLeave told name left → left ≡ content

-- ---- saving

pub record KeepsWhole (name bytes : List ℕ) (before after : StoreTold) : Type 0 where
  pub file : StaysOrBecomes name (Some bytes) before after
  pub others : (other : List ℕ) → is_name other name ≡ false → is_name other (aside_of name) ≡ false
      → Stays other before after

-- after each of its calls, and after one that failed; once all are done there is the new file alone
pub record SavesWhole (failing : Option StoreFails) (name bytes : List ℕ) (before after : StoreTold) : Type 0 where
  pub within : (made : ℕ) → Goes failing (take made (save_calls name bytes)) before after
      → KeepsWhole name bytes before after
  pub failed : (step : SaveStep) → Goes failing (save_calls_to name bytes step) before after
      → KeepsWhole name bytes before after
  pub done : Goes failing (save_calls name bytes) before after → IsLeft name (Some bytes) after

-- ---- removing

pub record KeepsOrRemoves (name : List ℕ) (before after : StoreTold) : Type 0 where
  pub file : StaysOrBecomes name None before after
  pub others : (other : List ℕ) → is_name other name ≡ false → Stays other before after

pub record RemovesWhole (failing : Option StoreFails) (name : List ℕ) (before after : StoreTold) : Type 0 where
  pub within : (made : ℕ) → Goes failing (take made (remove_calls name)) before after → KeepsOrRemoves name before after
  pub failed : (step : SaveStep) → Goes failing (remove_calls_to name step) before after
      → KeepsOrRemoves name before after
  pub done : Goes failing (remove_calls name) before after → IsLeft name None after

-- ---- clearing and reading

-- a call that changes no file but an aside
abbrev pub IsOfAsides : StoreCall → Type 0
IsOfAsides (ListedAsides names) = Unit {0}
IsOfAsides (ReadFile name reading) = Unit {0}
IsOfAsides (RemovedFile name done) = is_aside name ≡ true
IsOfAsides (SettledFiles done) = Unit {0}
IsOfAsides (WroteAside name bytes done) = ⊥
IsOfAsides (SyncedAside name done) = ⊥
IsOfAsides (RenamedAside name done) = ⊥

abbrev pub KeepsFiles : Option StoreFails → StoreTold → StoreTold → Type 0
KeepsFiles failing before after =
    (calls : List StoreCall) (name : List ℕ) → AllByRecursion IsOfAsides calls → Goes failing calls before after
    → is_aside name ≡ false → Stays name before after

-- the calls of a clearing of asides are such
abbrev pub ClearsAsides : Clearing → Type 0
ClearsAsides clearing =
    AllByRecursion (λ (cleared : Cleared). is_aside (string_bytes cleared.name) ≡ true) clearing.removed.items
    → AllByRecursion IsOfAsides (cleared_calls clearing)
