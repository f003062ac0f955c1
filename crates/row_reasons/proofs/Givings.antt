-- What is given of the elements of a list.
use Rattle.std.proofs.Common.{◌≡◌, ℕ, ◌+◌, ◌<◌, ◌≤◌, Bool, true, false, cond, ◌||◌, List, [], ◌∷◌, Option, Some, None, refl, ap, ◌∙◌, map, option_map, length, drop, get_or}
use Rattle.std.specs.Prelude.{filter}
use Rattle.std.specs.List.{AllByRecursion, Contains, cons_option, filter_map, list_any}
use Rattle.std.specs.Option.{is_some}
use Rattle.std.proofs.lemmas.List.{drop_all}
use Rattle.v6_client_laws.proofs.FirstItems.{behind_in, front_in}
use Rattle.transcript_audit.proofs.AuditSeats.LoopLaws.{left_of}
use Rattle.row_reasons.specs.Finding.{first_given, or_else}

pub same_some : {X : Type 0} {a b : X} → Some a ≡ Some b → a ≡ b
same_some e = cc

-- ---- the first

pub given_mapped : {X Y Z : Type 0} (f : Y → Option Z) (view : X → Y) (xs : List X) → first_given f (map view xs) ≡ first_given (λ x. f (view x)) xs
given_mapped f view [] = refl
given_mapped f view (x ∷ xs) = ap (λ (o : Option _). or_else (f (view x)) o) (given_mapped f view xs)

over_none : {Z : Type 0} (a b : Option Z) → is_some a ≡ false → or_else a b ≡ b
over_none None b e = refl
over_none (Some z) b e = absurd cc

over_some : {Z : Type 0} (a b : Option Z) → is_some a ≡ true → or_else a b ≡ a
over_some None b e = absurd cc
over_some (Some z) b e = refl

pub given_step : {X Z : Type 0} (f : X → Option Z) (xs : List X) (i : ℕ) (x : X) → x ≡ get_or xs i x → i < length xs → is_some (f x) ≡ false
    → first_given f (drop i xs) ≡ first_given f (drop (i + 1) xs)
given_step f xs i x is lt none = ap (first_given f) (left_of xs i x is lt) ∙ over_none (f x) (first_given f (drop (i + 1) xs)) none

pub given_found : {X Z : Type 0} (f : X → Option Z) (xs : List X) (i : ℕ) (x : X) → x ≡ get_or xs i x → i < length xs → is_some (f x) ≡ true
    → first_given f (drop i xs) ≡ f x
given_found f xs i x is lt some = ap (first_given f) (left_of xs i x is lt) ∙ over_some (f x) (first_given f (drop (i + 1) xs)) some

pub given_gone : {X Z : Type 0} (f : X → Option Z) (xs : List X) (i : ℕ) → length xs ≤ i → first_given f (drop i xs) ≡ None
given_gone f xs i le = ap (first_given f) (drop_all i xs le)

-- ---- whether there is one

pub some_of_two : {Z : Type 0} (a b : Option Z) → is_some (or_else a b) ≡ (is_some a || is_some b)
some_of_two None b = refl
some_of_two (Some z) b = refl

pub some_given : {X Z : Type 0} (f : X → Option Z) (xs : List X) → is_some (first_given f xs) ≡ list_any (λ x. is_some (f x)) xs
some_given f [] = refl
some_given f (x ∷ xs) = some_of_two (f x) (first_given f xs) ∙ ap (λ (b : Bool). is_some (f x) || b) (some_given f xs)

pub some_mapped : {X Y : Type 0} (f : X → Y) (o : Option X) → is_some (option_map f o) ≡ is_some o
some_mapped f None = refl
some_mapped f (Some x) = refl

-- ---- which one it is

pub record Gives {X Z : Type 0} (f : X → Option Z) (xs : List X) (z : Z) : Type 0 where
  pub x : X
  pub among : Contains xs x
  pub gives : f x ≡ Some z

further : {X Z : Type 0} (f : X → Option Z) (x : X) (xs : List X) (z : Z) → Gives f xs z → Gives f (x ∷ xs) z
further f x xs z g = record { x = g.x; among = behind_in x xs g.x g.among; gives = g.gives }

pub given_by : {X Z : Type 0} (f : X → Option Z) (xs : List X) (z : Z) → first_given f xs ≡ Some z → Gives f xs z
given_by f [] z e = absurd cc
given_by f (x ∷ xs) z e = at (f x) refl e (λ later. further f x xs z (given_by f xs z later))
  where
    at : (o : Option _) → f x ≡ o → or_else o (first_given f xs) ≡ Some z → (first_given f xs ≡ Some z → Gives f (x ∷ xs) z) → Gives f (x ∷ xs) z
    at None is same rest = rest same
    at (Some y) is same rest = record { x = x; among = front_in x xs; gives = is ∙ same }

-- one of two
pub record IsEither {Z : Type 0} (a b : Option Z) (z : Z) : Type 0 where
  pub first : Bool
  pub is : cond first a b ≡ Some z

pub either_of : {Z : Type 0} (a b : Option Z) (z : Z) → or_else a b ≡ Some z → IsEither a b z
either_of None b z e = record { first = false; is = e }
either_of (Some y) b z e = record { first = true; is = e }

-- ---- what is given of each

-- what was made into this
pub record Made {X Y : Type 0} (f : X → Y) (o : Option X) (y : Y) : Type 0 where
  pub x : X
  pub was : o ≡ Some x
  pub is : f x ≡ y

pub made_of : {X Y : Type 0} (f : X → Y) (o : Option X) (y : Y) → option_map f o ≡ Some y → Made f o y
made_of f None y e = absurd cc
made_of f (Some x) y e = record { x = x; was = refl; is = same_some e }

pub all_given : {X Y : Type 0} (f : X → Option Y) (view : Y → X) → ((x : X) (y : Y) → f x ≡ Some y → view y ≡ x) → (xs : List X)
    → AllByRecursion (λ x. is_some (f x) ≡ true) xs → map view (filter_map f xs) ≡ xs
all_given f view back [] all = refl
all_given f view back (x ∷ xs) all = at (f x) refl all.0 (all_given f view back xs all.1)
  where
    at : (o : Option _) → f x ≡ o → is_some o ≡ true → map view (filter_map f xs) ≡ xs → map view (cons_option o (filter_map f xs)) ≡ x ∷ xs
    at None is some rest = absurd cc
    at (Some y) is some rest = (λ i. back x y is i ∷ rest i)

pub each_given : {X Y : Type 0} (f : X → Option Y) (P : Y → Type 0) → ((x : X) (y : Y) → f x ≡ Some y → P y) → (xs : List X)
    → AllByRecursion P (filter_map f xs)
each_given f P so [] = tt
each_given f P so (x ∷ xs) = at (f x) refl (each_given f P so xs)
  where
    at : (o : Option _) → f x ≡ o → AllByRecursion P (filter_map f xs) → AllByRecursion P (cons_option o (filter_map f xs))
    at None is rest = rest
    at (Some y) is rest = (so x y is, rest)

pub each_kept : {X : Type 0} (p : X → Bool) (P Q : X → Type 0) → ((x : X) → p x ≡ true → P x → Q x) → (xs : List X) → AllByRecursion P xs
    → AllByRecursion Q (filter p xs)
each_kept p P Q so [] all = tt
each_kept p P Q so (x ∷ xs) all = at (p x) refl (each_kept p P Q so xs all.1)
  where
    at : (b : Bool) → p x ≡ b → AllByRecursion Q (filter p xs) → AllByRecursion Q (cond b (x ∷ filter p xs) (filter p xs))
    at true is rest = (so x is all.0, rest)
    at false is rest = rest

pub each_so : {X : Type 0} (P Q : X → Type 0) → ((x : X) → P x → Q x) → (xs : List X) → AllByRecursion P xs → AllByRecursion Q xs
each_so P Q so [] all = tt
each_so P Q so (x ∷ xs) all = (so x all.0, each_so P Q so xs all.1)
