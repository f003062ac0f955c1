-- What stands at the front of an area says what follows.
use Rattle.std.proofs.Common.{◌≡◌, ℕ, zero, suc, ◌+◌, ◌-◌, ◌<◌, ◌≤◌, ◌⊎◌, inl, inr, Bool, true, false, List, [], ◌∷◌, length, take, drop, Option, Some, None, refl, sym, ap, subst, ◌∙◌, arith, eqb, ltb}
use Rattle.std.specs.Prelude.{if◌then◌else◌, nat_lt}
use Rattle.std.proofs.lemmas.Bool.{ltb-false}
use Rattle.std.proofs.lemmas.List.{length-drop, length-take}
use Rattle.v6_options.specs.declared.area.Front.{Front}
use Rattle.v6_options.specs.declared.area.Front.TheVariants.{End, Bad, Whole}
use Rattle.v6_options.specs.OptionArea.{Instance, field, word_in, has_form, front_of, instances_by, instances_within, instances_in}
use Rattle.v6_options.specs.Nesting.{fields_len, or_else, malformed_held, malformed_by, malformed_within, malformed_in}
use Rattle.v6_options.specs.AreaSteps.{HasRoom, InstancesBy, MalformedBy}

pub cases_bool : (b : Bool) → (b ≡ true) ⊎ (b ≡ false)
cases_bool true = inl refl
cases_bool false = inr refl

-- what a header of this code and length begins, where this follows it
abbrev pub front_by : ℕ → ℕ → List ℕ → Front
front_by code len more =
    if nat_lt (length more) len then Bad
    else if has_form code (take len more) then Whole code len
    else Bad

not_empty : (n : ℕ) → eqb (suc (suc (suc (suc n)))) 0 ≡ false
not_empty n = grind arith

not_short : (n : ℕ) → ltb (suc (suc (suc (suc n)))) 4 ≡ false
not_short n = grind arith

without_header : (n : ℕ) → suc (suc (suc (suc n))) - 4 ≡ n
without_header n = omega arith

pub front_cells : (a b c d : ℕ) (more : List ℕ) → front_of (a ∷ b ∷ c ∷ d ∷ more) ≡ front_by (word_in 0 (a ∷ b ∷ [])) (word_in 0 (c ∷ d ∷ [])) more
unfolding front_of
front_cells a b c d more = rw (not_empty (length more), not_short (length more), without_header (length more)) refl

pub front_nothing : front_of [] ≡ End
unfolding front_of
front_nothing = refl

-- ---- within the area

by_room : (a b c d code len : ℕ) (more : List ℕ) → HasRoom (a ∷ b ∷ c ∷ d ∷ more) (front_by code len more)
by_room a b c d code len more =
    elim (cases_bool (ltb (length more) len)) [
      | inl e ↦ rw e (omega arith)
      | inr fits ↦ elim (cases_bool (has_form code (take len more))) [
        | inl e ↦ rw (fits, e) (omega (arith, ltb-false (length more) len fits), e)
        | inr e ↦ rw (fits, e) (omega arith)
      ]
    ]

room_at : (area : List ℕ) → HasRoom area (front_of area)
unfolding front_of
room_at [] = refl
room_at (a ∷ []) = omega arith
room_at (a ∷ b ∷ []) = omega arith
room_at (a ∷ b ∷ c ∷ []) = omega arith
room_at (a ∷ b ∷ c ∷ d ∷ more) =
    subst (λ (f : Front). HasRoom (a ∷ b ∷ c ∷ d ∷ more) f) (sym (front_cells a b c d more))
    (by_room a b c d (word_in 0 (a ∷ b ∷ [])) (word_in 0 (c ∷ d ∷ [])) more)

pub room_of : (area : List ℕ) (front : Front) → front_of area ≡ front → HasRoom area front
room_of area front e = subst (λ (f : Front). HasRoom area f) e (room_at area)

-- ---- instances

same_instances : (front : Front) (area : List ℕ) (f g : List ℕ → List Instance) → HasRoom area front
    → ((rest : List ℕ) → length rest + 4 ≤ length area → f rest ≡ g rest) → instances_by front area f ≡ instances_by front area g
same_instances End area f g room same = refl
same_instances Bad area f g room same = refl
same_instances (Whole code len) area f g room same =
    ap (λ (more : List Instance). (code, field 4 len area) ∷ more)
    (same (drop len (drop 4 area)) (omega (arith, room.0, length-drop len (drop 4 area), length-drop 4 area)))

no_instances : (more : ℕ) → instances_within more [] ≡ []
no_instances zero = refl
no_instances (suc more) = ap (λ (f : Front). instances_by f [] (instances_within more)) front_nothing

instances_enough : (a b : ℕ) (area : List ℕ) → length area ≤ a → length area ≤ b → instances_within a area ≡ instances_within b area
instances_enough a b [] small least = no_instances a ∙ sym (no_instances b)
instances_enough zero b (x ∷ area) small least = absurd (omega arith)
instances_enough (suc a) zero (x ∷ area) small least = absurd (omega arith)
instances_enough (suc a) (suc b) (x ∷ area) small least =
    same_instances (front_of (x ∷ area)) (x ∷ area) (instances_within a) (instances_within b) (room_at (x ∷ area))
    (λ rest h. instances_enough a b rest (omega arith) (omega arith))

instances_step : (area : List ℕ) → InstancesBy area (front_of area)
unfolding instances_in
instances_step [] = ap (λ (f : Front). instances_by f [] (λ (rest : List ℕ). instances_within (length rest) rest)) (sym front_nothing)
instances_step (x ∷ area) =
    same_instances (front_of (x ∷ area)) (x ∷ area) (instances_within (length area)) (λ (rest : List ℕ). instances_within (length rest) rest)
    (room_at (x ∷ area))
    (λ rest h. instances_enough (length area) (length rest) rest (omega arith) (omega arith))

pub instances_front : (area : List ℕ) (front : Front) → front_of area ≡ front → InstancesBy area front
instances_front area front e = subst (λ (f : Front). InstancesBy area f) e (instances_step area)

-- ---- the first that breaks the rule

same_held : (fields : Option ℕ) (at : ℕ) (value : List ℕ) (f g : ℕ → List ℕ → Option ℕ)
    → ((n : ℕ) (rest : List ℕ) → length rest ≤ length value → f n rest ≡ g n rest) → malformed_held fields at value f ≡ malformed_held fields at value g
same_held None at value f g same = refl
same_held (Some n) at value f g same = same (at + 4 + n) (drop n value) (omega (arith, length-drop n value))

same_malformed : (front : Front) (at : ℕ) (area : List ℕ) (f g : ℕ → List ℕ → Option ℕ) → HasRoom area front
    → ((n : ℕ) (rest : List ℕ) → length rest + 4 ≤ length area → f n rest ≡ g n rest) → malformed_by front at area f ≡ malformed_by front at area g
same_malformed End at area f g room same = refl
same_malformed Bad at area f g room same = refl
same_malformed (Whole code len) at area f g room same =
    let held = same_held (fields_len code) at (field 4 len area) f g
    (λ n rest h. same n rest (omega (arith, h, room.0, length-take len (drop 4 area), length-drop 4 area))) in
    let after = same (at + 4 + len) (drop len (drop 4 area)) (omega (arith, room.0, length-drop len (drop 4 area), length-drop 4 area)) in
    λ i. or_else (held i) (after i)

no_malformed : (more at : ℕ) → malformed_within more at [] ≡ None
no_malformed zero at = refl
no_malformed (suc more) at = ap (λ (f : Front). malformed_by f at [] (malformed_within more)) front_nothing

malformed_enough : (a b at : ℕ) (area : List ℕ) → length area ≤ a → length area ≤ b → malformed_within a at area ≡ malformed_within b at area
malformed_enough a b at [] small least = no_malformed a at ∙ sym (no_malformed b at)
malformed_enough zero b at (x ∷ area) small least = absurd (omega arith)
malformed_enough (suc a) zero at (x ∷ area) small least = absurd (omega arith)
malformed_enough (suc a) (suc b) at (x ∷ area) small least =
    same_malformed (front_of (x ∷ area)) at (x ∷ area) (malformed_within a) (malformed_within b) (room_at (x ∷ area))
    (λ n rest h. malformed_enough a b n rest (omega arith) (omega arith))

malformed_step : (at : ℕ) (area : List ℕ) → MalformedBy at area (front_of area)
unfolding malformed_in
malformed_step at [] = ap (λ (f : Front). malformed_by f at [] (λ (n : ℕ) (rest : List ℕ). malformed_within (length rest) n rest)) (sym front_nothing)
malformed_step at (x ∷ area) =
    same_malformed (front_of (x ∷ area)) at (x ∷ area) (malformed_within (length area)) (λ (n : ℕ) (rest : List ℕ). malformed_within (length rest) n rest)
    (room_at (x ∷ area))
    (λ n rest h. malformed_enough (length area) (length rest) n rest (omega arith) (omega arith))

pub malformed_front : (at : ℕ) (area : List ℕ) (front : Front) → front_of area ≡ front → MalformedBy at area front
malformed_front at area front e = subst (λ (f : Front). MalformedBy at area f) e (malformed_step at area)

pub short_front : (area : List ℕ) → 0 < length area → length area < 4 → front_of area ≡ Bad
unfolding front_of
short_front [] some short = absurd (omega arith)
short_front (a ∷ []) some short = refl
short_front (a ∷ b ∷ []) some short = refl
short_front (a ∷ b ∷ c ∷ []) some short = refl
short_front (a ∷ b ∷ c ∷ d ∷ more) some short = absurd (omega arith)
