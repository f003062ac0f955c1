-- The parts of an opening, as the code asks them.
use Rattle.std.proofs.Common.{ℕ, ◌≡◌, ◌+◌, ◌<◌, ◌≤◌, add-one, ◌==◌, Bool, true, false, List, [], ◌∷◌, length, get_or, drop, drop-cons, Option, Some, None, refl, sym, ap, subst, ◌∙◌, arith}
use Rattle.std.proofs.lemmas.Bool.Decides.{nat_tests}
use Rattle.std.proofs.lemmas.List.{drop_all}
use Rattle.std.specs.Prelude.{map, String}
use Rattle.std.specs.Global.{Global}
use Rattle.std.specs.String.{string_bytes}
use Rattle.device_calls.specs.Calls.{ListAsides, RemoveFile, Settle}
use Rattle.device_calls.specs.Programs.{Done, Then}
use Rattle.device_calls.specs.Worlds.{Seen}
use Rattle.device_calls.specs.Does.{Does}
use Rattle.device_calls.proofs.Doing.{does_done, does_then}
use Rattle.turn_model.specs.Opening.{removing, clearing_listed, clearing}

-- ---- asides

drop_one : (names : List (String Global)) (i : ℕ) (d : String Global) → i < length names → drop i names ≡ get_or names i d ∷ drop (i + 1) names
drop_one names i d lt = rw add-one (drop-cons names i d lt)

-- the rest is removed after one more
pub removing_more : (names : List (String Global)) (i : ℕ) (d name : String Global) (done : Bool) (x : Unit {0}) (old mid new : Seen) (t u v : List ℕ)
    → name ≡ get_or names i d → i < length names
    → Does (Then (RemoveFile (string_bytes name)) Done) done old mid t u
    → Does (removing (map string_bytes (drop (i + 1) names))) x mid new u v → Does (removing (map string_bytes (drop i names))) x old new t v
removing_more names i d name done x old mid new t u v is lt one rest =
    subst (λ (ns : List (String Global)). Does (removing (map string_bytes ns)) x old new t v) (sym (drop_one names i d lt))
    (does_then (RemoveFile (string_bytes (get_or names i d))) (λ done. removing (map string_bytes (drop (i + 1) names))) done x old mid new t u v
    (subst (λ (n : String Global). Does (Then (RemoveFile (string_bytes n)) Done) done old mid t u) is one) rest)

-- none is left, and the removals are settled
pub removing_end : (names : List (String Global)) (i : ℕ) (done : Bool) (x : Unit {0}) (old new : Seen) (t u : List ℕ) → length names ≤ i
    → Does (Then Settle Done) done old new t u → Does (removing (map string_bytes (drop i names))) x old new t u
removing_end names i done x old new t u le one =
    subst (λ (ns : List (String Global)). Does (removing (map string_bytes ns)) x old new t u) (sym (drop_all i names le))
    (does_then Settle (λ done. Done tt) done tt old new new t u u one (does_done tt new u))

-- there was none
pub removed_none : (names : List (String Global)) (x : Unit {0}) (seen : Seen) (text : List ℕ) → names ≡ []
    → Does (clearing_listed (Some (map string_bytes names))) x seen seen text text
removed_none names x seen text none =
    subst (λ (ns : List (String Global)). Does (clearing_listed (Some (map string_bytes ns))) x seen seen text text) (sym none) (does_done tt seen text)

-- there was one
pub removed_some : (names : List (String Global)) (x : Unit {0}) (old new : Seen) (t u : List ℕ) → (names ≡ [] → ⊥)
    → Does (removing (map string_bytes names)) x old new t u → Does (clearing_listed (Some (map string_bytes names))) x old new t u
removed_some [] x old new t u some did = absurd (some refl)
removed_some (name ∷ names) x old new t u some did = did

pub cleared_unlisted : (names : Option (List (List ℕ))) (x : Unit {0}) (old new : Seen) (t u : List ℕ) → names ≡ None
    → Does (Then ListAsides Done) names old new t u → Does clearing x old new t u
cleared_unlisted names x old new t u none listed =
    does_then ListAsides clearing_listed None tt old new new t u u
    (subst (λ (ns : Option (List (List ℕ))). Does (Then ListAsides Done) ns old new t u) none listed) (does_done tt new u)

pub cleared : (listed : Option (List (List ℕ))) (names : List (List ℕ)) (x : Unit {0}) (old mid new : Seen) (t u v : List ℕ) → listed ≡ Some names
    → Does (Then ListAsides Done) listed old mid t u → Does (clearing_listed (Some names)) x mid new u v → Does clearing x old new t v
cleared listed names x old mid new t u v is did rest =
    does_then ListAsides clearing_listed (Some names) x old mid new t u v
    (subst (λ (ns : Option (List (List ℕ))). Does (Then ListAsides Done) ns old mid t u) is did) rest

pub none_there : (names : List (String Global)) (empty : Bool) → empty ≡ (length names == 0) → empty ≡ true → names ≡ []
none_there [] empty is so = refl
none_there (name ∷ names) empty is so = let zero : (length (name ∷ names) == 0) ≡ true = sym is ∙ so in absurd (grind (arith, nat_tests))

pub some_there : (names : List (String Global)) (empty : Bool) → empty ≡ (length names == 0) → empty ≡ false → names ≡ [] → ⊥
some_there [] empty is so none = let bad : false ≡ true = sym so ∙ is in absurd cc
some_there (name ∷ names) empty is so none = let short : length (name ∷ names) ≡ 0 = ap length none in omega (arith, short)
