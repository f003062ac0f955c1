-- One more reading, after those so far.
use Rattle.std.proofs.Common.{ℕ, ◌≡◌, ◌+◌, ◌<◌, ◌≤◌, Bool, true, false, ◌||◌, List, [], ◌∷◌, ◌++◌, Option, Some, None, Ok, length, length-append, take, get_or, refl, sym, ap, ◌∙◌, arith, Bor}
use Rattle.std.specs.Prelude.{map}
use Rattle.std.proofs.lemmas.List.{map-append, take_more, length-map, length-take}
use Rattle.std.proofs.lemmas.List.Folds.{list_any-append}
use Rattle.world.specs.StoreCalls.{StoreTold, StoreCall, Reading, Missing, ReadFile}
use Rattle.lease_file.specs.declared.reading.Got.{Got}
use Rattle.lease_file.specs.declared.reading.Got.TheVariants as got
use Rattle.lease_file.specs.ToldStore.{told_files, told_calls, with_calls}
use Rattle.lease_file.specs.FileReads.{is_unread, any_unread, got_reading, reading_calls, HasReadCause, TellsReading}
use Rattle.lease_file.proofs.CallLists.{with_calls-append}

pub reading_told : (name : List ℕ) (told new : Option StoreTold) (g : Got) → TellsReading name told new (Ok g)
    → (told_calls new ≡ with_calls (ReadFile name (got_reading g) ∷ []) (told_calls told)) × (told_files new ≡ told_files told)
reading_told name None new g h = (ap told_calls h, ap told_files h)
reading_told name (Some t) new g h = (ap told_calls h.1, ap told_files h.1)

cause_cases : (left : Bool) (g : Got) (old mid new : ℕ) → (left ≡ true → old < mid) → old ≤ mid → mid ≤ new → HasReadCause mid new (Ok g)
    → (left || (is_unread g || false)) ≡ true → old < new
cause_cases true g old mid new before later latest here h = let rose : old < mid = before refl in omega arith
cause_cases false (got.Text bytes) old mid new before later latest here h = cc
cause_cases false got.Missing old mid new before later latest here h = cc
cause_cases false got.Unread old mid new before later latest here h = omega arith

pub unread_more : (gots all : List Got) (g : Got) (old mid new : ℕ) → all ≡ gots ++ g ∷ []
    → (any_unread gots ≡ true → old < mid) → old ≤ mid → mid ≤ new → HasReadCause mid new (Ok g) → any_unread all ≡ true → old < new
unread_more gots all g old mid new is before later latest here left =
    let split : (any_unread gots || any_unread (g ∷ [])) ≡ true = sym (list_any-append is_unread gots (g ∷ [])) ∙ sym (ap any_unread is) ∙ left in
    cause_cases (any_unread gots) g old mid new before later latest here split

reading_calls-append : (names : List (List ℕ)) (gots : List Got) (n : List ℕ) (g : Got) → length gots ≡ length names
    → reading_calls (names ++ n ∷ []) (gots ++ g ∷ []) ≡ reading_calls names gots ++ ReadFile n (got_reading g) ∷ []
reading_calls-append [] [] n g same = refl
reading_calls-append [] (x ∷ gots) n g same = absurd (omega arith)
reading_calls-append (name ∷ names) [] n g same = absurd (omega arith)
reading_calls-append (name ∷ names) (x ∷ gots) n g same =
    ap (λ (more : List StoreCall). ReadFile name (got_reading x) ∷ more) (reading_calls-append names gots n g (omega arith))

abbrev pub texts_of : List (Bor (List ℕ)) → List (List ℕ)
texts_of names = map (λ name. name.now) names

pub calls_more : (names : List (Bor (List ℕ))) (i : ℕ) (d : Bor (List ℕ)) (gots all : List Got) (g : Got) (old mid new : Option (List StoreCall))
    → i < length names → length gots ≡ i → all ≡ gots ++ g ∷ []
    → mid ≡ with_calls (reading_calls (texts_of (take i names)) gots) old
    → new ≡ with_calls (ReadFile (get_or names i d).now (got_reading g) ∷ []) mid
    → new ≡ with_calls (reading_calls (texts_of (take (i + 1) names)) all) old
calls_more names i d gots all g old mid new lt count is before here =
    let item = get_or names i d in
    let same : length gots ≡ length (texts_of (take i names)) = simp (length-map, length-take) (omega arith) in
    let split : texts_of (take (i + 1) names) ≡ texts_of (take i names) ++ item.now ∷ [] =
    ap texts_of (take_more names i d lt) ∙ map-append (λ (n : Bor (List ℕ)). n.now) (take i names) (item ∷ []) in
    here ∙ ap (with_calls (ReadFile item.now (got_reading g) ∷ [])) before
    ∙ with_calls-append (reading_calls (texts_of (take i names)) gots) (ReadFile item.now (got_reading g) ∷ []) old
    ∙ ap (λ (calls : List StoreCall). with_calls calls old)
    (sym (reading_calls-append (texts_of (take i names)) gots item.now g same)
    ∙ ap (λ (n : List (List ℕ)). reading_calls n (gots ++ g ∷ [])) (sym split) ∙ ap (reading_calls (texts_of (take (i + 1) names))) (sym is))

pub missing_more : (names : List (Bor (List ℕ))) (i : ℕ) (d : Bor (List ℕ)) (gots all : List Got) (g : Got)
    → i < length names → all ≡ gots ++ g ∷ [] → g ≡ got.Missing
    → map got_reading gots ≡ map (λ _. Missing) (take i names) → map got_reading all ≡ map (λ _. Missing) (take (i + 1) names)
missing_more names i d gots all g lt is none before =
    ap (map got_reading) is ∙ map-append got_reading gots (g ∷ [])
    ∙ ap (λ (r : List Reading). r ++ got_reading g ∷ []) before
    ∙ ap (λ (x : Got). map (λ (n : Bor (List ℕ)). Missing) (take i names) ++ got_reading x ∷ []) none
    ∙ sym
    (ap (map (λ (n : Bor (List ℕ)). Missing)) (take_more names i d lt) ∙ map-append (λ (n : Bor (List ℕ)). Missing) (take i names) (get_or names i d ∷ []))

pub count_more : (gots all : List Got) (g : Got) (i : ℕ) → all ≡ gots ++ g ∷ [] → length gots ≡ i → length all ≡ i + 1
count_more gots all g i is count = rw is (simp length-append (omega arith))
