-- Lists of things with names, in byte order of these.
use Rattle.std.specs.Prelude.{ℕ, ◌≡◌, List, [], ◌∷◌, if◌then◌else◌}
use Rattle.std.specs.List.{AllByRecursion}
use Rattle.std.specs.declared.cmp.Ordering.TheVariants.{Less}
use Rattle.std.specs.Ordering.{match_ordering}
use Rattle.world.specs.FileNames.{name_cmp, is_name}

-- what the first thing of a name has, or what stands for none
abbrev pub named : {A B : Type 0} → (A → List ℕ) → (A → B) → (none : B) → (name : List ℕ) → List A → B
named name_of has none name [] = none
named name_of has none name (x ∷ xs) = if is_name name (name_of x) then has x else named name_of has none name xs

-- with one more at its place, in place of the one of that name
abbrev pub put_named : {A : Type 0} → (A → List ℕ) → A → List A → List A
put_named name_of x [] = x ∷ []
put_named name_of x (y ∷ ys) =
    match_ordering (name_cmp (name_of x) (name_of y)) (x ∷ y ∷ ys) (x ∷ ys) (y ∷ put_named name_of x ys)

-- without the one of a name
abbrev pub drop_named : {A : Type 0} → (A → List ℕ) → List ℕ → List A → List A
drop_named name_of name [] = []
drop_named name_of name (x ∷ xs) = if is_name name (name_of x) then xs else x ∷ drop_named name_of name xs

-- in byte order of the names, no name twice
abbrev pub InNameOrder : {A : Type 0} → (A → List ℕ) → List A → Type 0
InNameOrder name_of [] = Unit {0}
InNameOrder name_of (x ∷ xs) = AllByRecursion (λ y. name_cmp (name_of x) (name_of y) ≡ Less) xs × InNameOrder name_of xs
