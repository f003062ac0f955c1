-- One more removal after those so far, and all calls of a clearing.
use Rattle.std.proofs.Common.{ℕ, ◌≡◌, ◌<◌, ◌≤◌, Bool, true, false, not, ◌||◌, List, [], ◌∷◌, ◌++◌, Option, Some, None, length, refl, sym, ap, subst, ◌∙◌, append_assoc, append-nil, arith, String}
use Rattle.std.specs.Prelude.{map, option_map, IfSome}
use Rattle.std.specs.Global.{Global}
use Rattle.std.specs.String.{string_bytes}
use Rattle.std.proofs.lemmas.List.{map-append}
use Rattle.std.proofs.lemmas.List.Folds.{list_any-append}
use Rattle.world.specs.StoreCalls.{StoreTold, StoreCall, RemovedFile, SettledFiles}
use Rattle.world.specs.FileLists.{StoreFile, asides}
use Rattle.world.specs.StoreFails.{StoreFails}
use Rattle.lease_file.specs.declared.clearing.Cleared.{Cleared}
use Rattle.lease_file.specs.ToldStore.{with_calls}
use Rattle.lease_file.proofs.CallLists.{with_calls-append}
use Rattle.lease_file.specs.AsideCalls.{any_left, listing_calls, removal_calls}
use Rattle.lease_file.specs.AsideFiles.{without, without_one, TakesFile, TakesFiles}

cause_cases : (left ok : Bool) (old mid new : ℕ) → (left ≡ true → old < mid) → old ≤ mid → mid ≤ new → (ok ≡ false → mid < new)
    → (left || (not ok || false)) ≡ true → old < new
cause_cases true ok old mid new before later latest here h = let rose : old < mid = before refl in omega arith
cause_cases false true old mid new before later latest here h = cc
cause_cases false false old mid new before later latest here h = let rose : mid < new = here refl in omega arith

pub cause_more : (removed all : List Cleared) (one : Cleared) (old mid new : ℕ) → all ≡ removed ++ one ∷ []
    → (any_left removed ≡ true → old < mid) → old ≤ mid → mid ≤ new → (one.ok ≡ false → mid < new)
    → any_left all ≡ true → old < new
cause_more removed all one old mid new is before later latest here left =
    let split : (any_left removed || any_left (one ∷ [])) ≡ true =
    sym (list_any-append (λ (c : Cleared). not c.ok) removed (one ∷ [])) ∙ sym (ap any_left is) ∙ left in
    cause_cases (any_left removed) one.ok old mid new before later latest here split

pub calls_more : (removed all : List Cleared) (one : Cleared) (old mid new : Option (List StoreCall)) → all ≡ removed ++ one ∷ []
    → mid ≡ with_calls (removal_calls removed) old → new ≡ with_calls (RemovedFile (string_bytes one.name) one.ok ∷ []) mid
    → new ≡ with_calls (removal_calls all) old
calls_more removed all one None mid new is before here = here ∙ ap (with_calls (RemovedFile (string_bytes one.name) one.ok ∷ [])) before
calls_more removed all one (Some calls) mid new is before here =
    here ∙ ap (with_calls (RemovedFile (string_bytes one.name) one.ok ∷ [])) before
    ∙ ap Some
    (append_assoc calls (removal_calls removed) (removal_calls (one ∷ []))
    ∙ ap (λ (more : List StoreCall). calls ++ more)
    (sym (map-append (λ (c : Cleared). RemovedFile (string_bytes c.name) c.ok) removed (one ∷ [])) ∙ sym (ap removal_calls is)))

without-append : (removed : List Cleared) (one : Cleared) (files : List StoreFile)
    → without (removed ++ one ∷ []) files ≡ without_one one.ok (string_bytes one.name) (without removed files)
without-append [] one files = refl
without-append (c ∷ removed) one files = without-append removed one (without_one c.ok (string_bytes c.name) files)

pub files_more : (removed all : List Cleared) (one : Cleared) (old mid new : Option (List StoreFile)) → all ≡ removed ++ one ∷ []
    → mid ≡ option_map (without removed) old → new ≡ option_map (without_one one.ok (string_bytes one.name)) mid
    → new ≡ option_map (without all) old
files_more removed all one None mid new is before here = here ∙ ap (option_map (without_one one.ok (string_bytes one.name))) before
files_more removed all one (Some files) mid new is before here =
    here ∙ ap (option_map (without_one one.ok (string_bytes one.name))) before
    ∙ ap Some (sym (without-append removed one files) ∙ sym (ap (λ (r : List Cleared). without r files) is))

abbrev pub names_of : List Cleared → List (String Global)
names_of removed = map (λ cleared. cleared.name) removed

-- the names so far, and those that are still to come
pub names_more : (removed all : List Cleared) (one : Cleared) (left rest names : List (String Global)) → all ≡ removed ++ one ∷ []
    → left ≡ one.name ∷ rest → names_of removed ++ left ≡ names → names_of all ++ rest ≡ names
names_more removed all one left rest names is next before =
    ap (λ (done : List (String Global)). done ++ rest) (ap names_of is ∙ map-append (λ (c : Cleared). c.name) removed (one ∷ []))
    ∙ append_assoc (names_of removed) (one.name ∷ []) rest ∙ ap (λ (more : List (String Global)). names_of removed ++ more) (sym next) ∙ before

pub nothing_left : {X : Type 0} (l : List X) → length l ≡ 0 → l ≡ []
nothing_left [] h = refl
nothing_left (x ∷ xs) h = absurd (omega arith)

pub names_all : (removed : List Cleared) (left names : List (String Global)) → length left ≡ 0 → names_of removed ++ left ≡ names → names_of removed ≡ names
names_all removed left names none before =
    sym (append-nil (names_of removed)) ∙ ap (λ (more : List (String Global)). names_of removed ++ more) (sym (nothing_left left none)) ∙ before

bytes_of_names : (removed : List Cleared) → map (λ (c : Cleared). string_bytes c.name) removed ≡ map string_bytes (names_of removed)
bytes_of_names [] = refl
bytes_of_names (c ∷ removed) = ap (λ (more : List (List ℕ)). string_bytes c.name ∷ more) (bytes_of_names removed)

pub named_bytes : (removed : List Cleared) (names : List (String Global)) → names_of removed ≡ names
    → map (λ (c : Cleared). string_bytes c.name) removed ≡ map string_bytes names
named_bytes removed names is = bytes_of_names removed ∙ ap (map string_bytes) is

pub names_told : (told : Option StoreTold) (removed : List Cleared) (names : List (String Global)) → names_of removed ≡ names
    → IfSome told (λ t. map string_bytes names ≡ asides t.files) → IfSome told (λ t. map (λ c. string_bytes c.name) removed ≡ asides t.files)
names_told None removed names is listed = tt
names_told (Some t) removed names is listed = bytes_of_names removed ∙ ap (map string_bytes) is ∙ listed

pub calls_all : (removed : List Cleared) (names : List (String Global)) (done : Bool) (old listed cleared new : Option (List StoreCall))
    → names_of removed ≡ names
    → listed ≡ with_calls (listing_calls (map string_bytes names)) old → cleared ≡ with_calls (removal_calls removed) listed
    → new ≡ with_calls (SettledFiles done ∷ []) cleared
    → new ≡ with_calls (listing_calls (map (λ c. string_bytes c.name) removed) ++ (removal_calls removed ++ SettledFiles done ∷ [])) old
calls_all removed names done old listed cleared new is first second third =
    let listing = listing_calls (map (λ (c : Cleared). string_bytes c.name) removed) in
    let settling = SettledFiles done ∷ [] in
    let named : listed ≡ with_calls listing old =
    first ∙ ap (λ (n : List (List ℕ)). with_calls (listing_calls n) old) (ap (map string_bytes) (sym is) ∙ sym (bytes_of_names removed)) in
    third ∙ ap (with_calls settling) (second ∙ ap (with_calls (removal_calls removed)) named ∙ with_calls-append listing (removal_calls removed) old)
    ∙ with_calls-append (listing ++ removal_calls removed) settling old

taken_append : (failing : Option StoreFails) (removed : List Cleared) (one : Cleared) (old mid new : Option (List StoreFile))
    → TakesFiles failing removed old mid → TakesFile failing one.ok (string_bytes one.name) mid new → TakesFiles failing (removed ++ one ∷ []) old new
taken_append failing [] one old mid new before here =
    (new, subst (λ (o : Option (List StoreFile)). TakesFile failing one.ok (string_bytes one.name) o new) before here, refl)
taken_append failing (c ∷ removed) one old mid new before here = (before.0, before.1, taken_append failing removed one before.0 mid new before.2 here)

pub taken_more : (failing now : Option StoreFails) (removed all : List Cleared) (one : Cleared) (name : List ℕ) (old mid new : Option (List StoreFile))
    → now ≡ failing → name ≡ string_bytes one.name → all ≡ removed ++ one ∷ []
    → TakesFiles failing removed old mid → TakesFile now one.ok name mid new → TakesFiles failing all old new
taken_more failing now removed all one name old mid new same called is before here =
    let here_then = subst (λ (f : Option StoreFails). TakesFile f one.ok name mid new) same here in
    let named = subst (λ (n : List ℕ). TakesFile failing one.ok n mid new) called here_then in
    subst (λ (r : List Cleared). TakesFiles failing r old new) (sym is) (taken_append failing removed one old mid new before named)

pub taken_all : (failing now : Option StoreFails) (removed : List Cleared) (old listed cleared new : Option (List StoreFile))
    → now ≡ failing → listed ≡ old → new ≡ cleared → TakesFiles now removed listed cleared → TakesFiles failing removed old new
taken_all failing now removed old listed cleared new same first last here =
    let here_then = subst (λ (f : Option StoreFails). TakesFiles f removed listed cleared) same here in
    let from_old = subst (λ (o : Option (List StoreFile)). TakesFiles failing removed o cleared) first here_then in
    subst (λ (n : Option (List StoreFile)). TakesFiles failing removed old n) (sym last) from_old
