-- Calls of a store one after another.
use Rattle.std.proofs.Common.{◌≡◌, ◌<◌, ℕ, Bool, false, List, [], ◌∷◌, ◌++◌, Option, Result, Ok, Err, refl, ap, ◌∙◌, sym, subst, take, map, String}
use Rattle.std.specs.Prelude.{IfErr}
use Rattle.std.specs.Global.{Global}
use Rattle.std.specs.String.{string_bytes}
use Rattle.std.proofs.lemmas.List.{map-append}
use Rattle.world.specs.StoreFails.{StoreFails}
use Rattle.world.specs.StoreCalls.{StoreCall, RemovedFile, SettledFiles, StoreTold}
use Rattle.file_choices.specs.StoreWalks.{Answered}
use Rattle.file_choices.proofs.Walking.{answered_more}
use Rattle.lease_file.specs.declared.clearing.Cleared.{Cleared}
use Rattle.lease_file.specs.declared.faults.SaveStep.{SaveStep}
use Rattle.lease_file.specs.declared.faults.SaveFault.{SaveFault}
use Rattle.lease_file.specs.declared.faults.SaveFault.TheVariants.{Failed, NoMemory}
use Rattle.lease_file.specs.AsideCalls.{listing_calls, removal_calls, BeginsRemovals}
use Rattle.lease_file.proofs.Removals.{names_of, names_more}
use Rattle.lease_file.specs.StoreAnswers.{Steps}
use Rattle.lease_file.specs.Saving.{IsOfSaving, Saves, save_calls, save_calls_to}

-- a saving of which so many calls were done, and the next one wasn't
pub record Stops (name bytes : List ℕ) (step : SaveStep) (call : Bool → StoreCall) (done : List StoreCall) : Type 0 where
  pub of : IsOfSaving step
  pub failed : save_calls_to name bytes step ≡ done ++ call false ∷ []
  pub made : ℕ
  pub front : take made (save_calls name bytes) ≡ done
  pub short : made < 4

pub stopped : {T : Type 0} (failing now : Option StoreFails) (name bytes : List ℕ) (step : SaveStep) (call : Bool → StoreCall) (done : List StoreCall)
    (old mid new : Option StoreTold)
    (result : Result T SaveFault) (fault : SaveFault) → result ≡ Err fault → Stops name bytes step call done → now ≡ failing → Answered failing done old mid
    → Steps {T = T} now step call mid new (Err fault) → Saves failing name bytes old new result
stopped {T} failing now name bytes step call done old mid new result fault is stops same before here =
    subst (λ (r : Result T SaveFault). Saves failing name bytes old new r) (sym is) (by fault here)
  where
    by : (f : SaveFault) → Steps {T = T} now step call mid new (Err f) → Saves {T = T} failing name bytes old new (Err f)
    by (Failed failed) at =
        let calls : Answered failing (save_calls_to name bytes step) old new =
        subst (λ (calls : List StoreCall). Answered failing calls old new) (sym stops.failed)
        (answered_more failing now done (call false ∷ []) old mid new same before at.1) in
        subst (λ (s : SaveStep). IsOfSaving s × Answered failing (save_calls_to name bytes s) old new) (sym at.0) (stops.of, calls)
    by NoMemory at =
        let some = subst (λ (m : Option StoreTold). Answered failing done old m) (sym at) before in
        (stops.made, stops.short, subst (λ (calls : List StoreCall). Answered failing calls old new) (sym stops.front) some)

-- two calls done, and three
pub two_done : (failing now : Option StoreFails) (a b : StoreCall) (old mid new : Option StoreTold) → now ≡ failing → Answered failing (a ∷ []) old mid
    → Answered now (b ∷ []) mid new → Answered failing (a ∷ b ∷ []) old new
two_done failing now a b old mid new same before here = answered_more failing now (a ∷ []) (b ∷ []) old mid new same before here

pub three_done : (failing now : Option StoreFails) (a b c : StoreCall) (old mid new : Option StoreTold) → now ≡ failing → Answered failing (a ∷ b ∷ []) old mid
    → Answered now (c ∷ []) mid new → Answered failing (a ∷ b ∷ c ∷ []) old new
three_done failing now a b c old mid new same before here = answered_more failing now (a ∷ b ∷ []) (c ∷ []) old mid new same before here

-- ---- a clearing

pub removal_more : (failing now : Option StoreFails) (removed all : List Cleared) (one : Cleared) (name : List ℕ) (old mid new : Option StoreTold)
    → now ≡ failing → name ≡ string_bytes one.name → all ≡ removed ++ one ∷ [] → Answered failing (removal_calls removed) old mid
    → Answered now (RemovedFile name one.ok ∷ []) mid new → Answered failing (removal_calls all) old new
removal_more failing now removed all one name old mid new same called is before here =
    let named = subst (λ (n : List ℕ). Answered now (RemovedFile n one.ok ∷ []) mid new) called here in
    let more : removal_calls all ≡ removal_calls removed ++ RemovedFile (string_bytes one.name) one.ok ∷ [] =
    ap removal_calls is ∙ map-append (λ (c : Cleared). RemovedFile (string_bytes c.name) c.ok) removed (one ∷ []) in
    subst (λ (calls : List StoreCall). Answered failing calls old new) (sym more)
    (answered_more failing now (removal_calls removed) (RemovedFile (string_bytes one.name) one.ok ∷ []) old mid new same before named)

pub cleared_answered : (failing at_removals at_settling : Option StoreFails) (removed : List Cleared) (names : List (List ℕ)) (settled : Bool)
    (old listed cleared new : Option StoreTold)
    → at_removals ≡ failing → at_settling ≡ failing → map (λ (c : Cleared). string_bytes c.name) removed ≡ names
    → Answered failing (listing_calls names) old listed
    → Answered at_removals (removal_calls removed) listed cleared → Answered at_settling (SettledFiles settled ∷ []) cleared new
    → Answered failing (listing_calls (map (λ (c : Cleared). string_bytes c.name) removed) ++ (removal_calls removed ++ SettledFiles settled ∷ [])) old new
cleared_answered failing at_removals at_settling removed names settled old listed cleared new first second is a b c =
    let from_listing = subst (λ (ns : List (List ℕ)). Answered failing (listing_calls ns) old listed) (sym is) a in
    let removals = subst (λ (f : Option StoreFails). Answered f (removal_calls removed) listed cleared) first b in
    answered_more failing failing (listing_calls (map (λ (c : Cleared). string_bytes c.name) removed))
    (removal_calls removed ++ SettledFiles settled ∷ []) old listed new refl from_listing
    (answered_more failing at_settling (removal_calls removed) (SettledFiles settled ∷ []) listed cleared new second removals c)

-- ---- a clearing for which memory ran out

-- no more was removed
pub begins_none : (failing : Option StoreFails) (removed : List Cleared) (rest names : List (String Global)) (old mid new : Option StoreTold)
    → names_of removed ++ rest ≡ names
    → Answered failing (removal_calls removed) old mid → new ≡ mid → BeginsRemovals failing names old new
begins_none failing removed rest names old mid new named before same = record {
  removed = removed;
  rest = rest;
  named = named;
  answered = subst (λ (m : Option StoreTold). Answered failing (removal_calls removed) old m) (sym same) before;
}

-- one more was
pub begins_more : (failing now : Option StoreFails) (removed : List Cleared) (one : Cleared) (name : List ℕ) (left rest names : List (String Global))
    (old mid new : Option StoreTold)
    → now ≡ failing → name ≡ string_bytes one.name → left ≡ one.name ∷ rest → names_of removed ++ left ≡ names
    → Answered failing (removal_calls removed) old mid
    → Answered now (RemovedFile name one.ok ∷ []) mid new → BeginsRemovals failing names old new
begins_more failing now removed one name left rest names old mid new same called next named before here = record {
  removed = removed ++ one ∷ [];
  rest = rest;
  named = names_more removed (removed ++ one ∷ []) one left rest names refl next named;
  answered = removal_more failing now removed (removed ++ one ∷ []) one name old mid new same called refl before here;
}

-- what holds whatever the error is
pub if_err : {T E : Type 0} (X : Type 0) (result : Result T E) → X → IfErr result (λ _. X)
if_err X (Ok v) x = tt
if_err X (Err e) x = x
