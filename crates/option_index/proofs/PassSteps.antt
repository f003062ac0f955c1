-- What one step of the pass over an area does to what the places tell.
use Rattle.std.proofs.Common.{◌≡◌, ◌≢◌, ℕ, ◌+◌, ◌<◌, ◌≤◌, Bool, true, false, List, [], ◌∷◌, ◌++◌, length, take, drop, get_or, set, replicate, refl, sym, ap, ◌∙◌, subst, arith, eqb, ltb}
use Rattle.std.proofs.lemmas.List.{append_assoc, append-nil, drop-drop, get_or-replicate, length-drop, length-set, get_or-drop, get_or-set_same, get_or-set_other}
use Rattle.std.proofs.lemmas.Bool.{eqb-true, eqb-false}
use Rattle.std.specs.Prelude.{if◌then◌else◌}
use Rattle.v4_options.specs.declared.area.Front.{Front}
use Rattle.v4_options.specs.declared.area.Front.TheVariants.{Pad, End, Cut, Whole}
use Rattle.v4_options.specs.AreaSteps.{LiesIn}
use Rattle.v4_options.specs.declared.view.Areas.{Areas}
use Rattle.v4_options.specs.OptionArea.{Instance, front_of, instances_in}
use Rattle.v4_options.specs.OptionValue.{pieces}
use Rattle.v4_options.proofs.Fronts.{instances_by}
use Rattle.v4_options.specs.declared.view.OptionView.{OptionView}
use Rattle.v4_options.specs.Overload.{reads_file, reads_sname}
use Rattle.v4_options.specs.OptionViews.{view_instances}
use Rattle.option_index.specs.declared.place.Field.{Field}
use Rattle.option_index.specs.declared.place.Field.TheVariants.{Options, File, Sname}
use Rattle.option_index.specs.declared.place.Place.{Place}
use Rattle.option_index.specs.declared.place.Place.TheVariants.{Nowhere, At, Unkept}
use Rattle.option_index.specs.Places.{field_bytes, noted, place_at, value_from, Knows, Notes, PassBy, StandsAt, Told}

-- ---- the instances from a place on

rest_is : (at n : ℕ) (area : List ℕ) → drop n (drop 2 (drop at area)) ≡ drop (at + (2 + n)) area
rest_is at n area =
    ap (λ (rest : List ℕ). drop n rest) (drop-drop 2 at area) ∙ drop-drop n (at + 2) area
    ∙ ap (λ (m : ℕ). drop m area) (omega arith)

value_is : (at n : ℕ) (area : List ℕ) → get_or (drop at area) 1 0 ≡ n → take n (drop 2 (drop at area)) ≡ value_from area (at + 1)
value_is at n area len =
    ap (λ (rest : List ℕ). take n rest) (drop-drop 2 at area ∙ ap (λ (m : ℕ). drop m area) (omega arith))
    ∙ ap (λ (m : ℕ). take m (drop (at + 1 + 1) area)) (sym len ∙ get_or-drop at area 1 0)

code_is : (at : ℕ) (area : List ℕ) → get_or (drop at area) 0 0 ≡ get_or area at 0
code_is at area = get_or-drop at area 0 0 ∙ ap (λ (m : ℕ). get_or area m 0) (omega arith)

pair_is : (a b : ℕ) (v w : List ℕ) (rest others : List Instance) → a ≡ b → v ≡ w → rest ≡ others
    → ◌≡◌ {A = List Instance} ((a, v) ∷ rest) ((b, w) ∷ others)
pair_is a b v w rest others d e f = rw (d, e, f) refl

-- what stands at the front of the rest says what stands at the place
pass_by : (at : ℕ) (area : List ℕ) (front : Front) → at ≤ length area → front_of (drop at area) ≡ front → LiesIn (drop at area) front → PassBy area at front
pass_by at area Pad within e room = (omega (arith, room, length-drop at area), instances_by (drop at area) Pad e ∙ ap instances_in (drop-drop 1 at area))
pass_by at area End within e room = instances_by (drop at area) End e
pass_by at area Cut within e room = instances_by (drop at area) Cut e
pass_by at area (Whole n) within e room = (
  omega (arith, room.0, length-drop at area),
  sym (get_or-drop at area 1 0) ∙ room.1,
  instances_by (drop at area) (Whole n) e
      ∙ pair_is _ _ _ _ _ _ (code_is at area) (value_is at n area room.1) (ap instances_in (rest_is at n area)),
)

pub pass_from : (at : ℕ) (area rest : List ℕ) (front : Front) → rest ≡ drop at area → at ≤ length area → front_of rest ≡ front → LiesIn rest front
    → PassBy area at front
pass_from at area rest front e within exact room =
    pass_by at area front within (subst (λ (r : List ℕ). front_of r ≡ front) e exact) (subst (λ (r : List ℕ). LiesIn r front) e room)

-- ---- one more instance

-- a place is that of a value, or keeps nothing
abbrev pub Marks : Areas → Place → List ℕ → Type 0
Marks areas Nowhere value = ⊥
Marks areas (At field at) value = StandsAt (field_bytes areas field) at × (value ≡ value_from (field_bytes areas field) at)
Marks areas Unkept value = Unit {0}

marks_at : (areas : Areas) (field : Field) (at : ℕ) → StandsAt (field_bytes areas field) at
    → Marks areas (place_at field at) (value_from (field_bytes areas field) at)
marks_at areas field at stands = by (ltb at 65536) refl
  where
    by : (b : Bool) → ltb at 65536 ≡ b → Marks areas (place_at field at) (value_from (field_bytes areas field) at)
    by true e = rw e (stands, refl)
    by false e = rw e tt

told_more : (areas : Areas) (old place : Place) (value : List ℕ) (all left : List (List ℕ)) → Told areas old all (value ∷ left) → Marks areas place value
    → Told areas (noted old place) all left
told_more areas Nowhere Nowhere value all left told marks = absurd marks
told_more areas Nowhere (At field at) value all left told marks = (marks.0, told ∙ ap (λ (v : List ℕ). v ∷ left) marks.1)
told_more areas Nowhere Unkept value all left told marks = tt
told_more areas (At field at) place value all left told marks = tt
told_more areas Unkept place value all left told marks = tt

pieces_same : (code c : ℕ) (value : List ℕ) (rest : List Instance) → eqb code c ≡ true → pieces c ((code, value) ∷ rest) ≡ value ∷ pieces c rest
pieces_same code c value rest e = rw e refl

pieces_other : (code c : ℕ) (value : List ℕ) (rest : List Instance) → eqb code c ≡ false → pieces c ((code, value) ∷ rest) ≡ pieces c rest
pieces_other code c value rest e = rw e refl

one_more : (areas : Areas) (all rest : List Instance) (places : List Place) (code : ℕ) (value : List ℕ) (place : Place) → code < length places
    → Knows areas all ((code, value) ∷ rest) places → Marks areas place value
    → Knows areas all rest (set places code (noted (get_or places code Nowhere) place))
one_more areas all rest places code value place within known marks c below = by (eqb code c) refl
  where
    next : List Place
    next = set places code (noted (get_or places code Nowhere) place)

    by : (b : Bool) → eqb code c ≡ b → Told areas (get_or next c Nowhere) (pieces c all) (pieces c rest)
    by true e =
        let same : code ≡ c = eqb-true code c e in
        let now : get_or next c Nowhere ≡ noted (get_or places code Nowhere) place =
        ap (λ (n : ℕ). get_or next n Nowhere) (sym same) ∙ get_or-set_same places code (noted (get_or places code Nowhere) place) Nowhere within in
        let told : Told areas (get_or places code Nowhere) (pieces c all) (value ∷ pieces c rest) =
        subst (λ (n : ℕ). Told areas (get_or places n Nowhere) (pieces c all) (value ∷ pieces c rest)) (sym same)
        (subst (λ (left : List (List ℕ)). Told areas (get_or places c Nowhere) (pieces c all) left) (pieces_same code c value rest e) (known c below)) in
        subst (λ (p : Place). Told areas p (pieces c all) (pieces c rest)) (sym now)
        (told_more areas (get_or places code Nowhere) place value (pieces c all) (pieces c rest) told marks)
    by false e =
        let other : c ≢ code = λ p. absurd (eqb-false code c e (sym p)) in
        subst (λ (p : Place). Told areas p (pieces c all) (pieces c rest))
        (sym (get_or-set_other places code c (noted (get_or places code Nowhere) place) Nowhere other))
        (subst (λ (left : List (List ℕ)). Told areas (get_or places c Nowhere) (pieces c all) left) (pieces_other code c value rest e) (known c below))

-- the pass goes over an option
over_option : (areas : Areas) (field : Field) (bytes : List ℕ) → bytes ≡ field_bytes areas field
    → (at n : ℕ) (all later : List Instance) (places : List Place) → PassBy bytes at (Whole n) → get_or bytes at 0 < length places
    → Knows areas all (instances_in (drop at bytes) ++ later) places
    → Knows areas all (instances_in (drop (at + (2 + n)) bytes) ++ later)
    (set places (get_or bytes at 0) (noted (get_or places (get_or bytes at 0) Nowhere) (place_at field (at + 1))))
over_option areas field bytes e at n all later places pass below known =
    one_more areas all (instances_in (drop (at + (2 + n)) bytes) ++ later) places (get_or bytes at 0) (value_from bytes (at + 1))
    (place_at field (at + 1)) below
    (subst (λ (left : List Instance). Knows areas all (left ++ later) places) pass.2 known)
    (subst (λ (b : List ℕ). Marks areas (place_at field (at + 1)) (value_from b (at + 1))) (sym e)
    (marks_at areas field (at + 1) (subst (λ (b : List ℕ). StandsAt b (at + 1)) e stands)))
  where
    stands : at + 1 + 1 + get_or bytes (at + 1) 0 ≤ length bytes
    stands = omega (arith, pass.1, pass.0)

-- the same, with what the code made
pub over_noted : (areas : Areas) (field : Field) (bytes : List ℕ) → bytes ≡ field_bytes areas field
    → (at n : ℕ) (all later : List Instance) (places next : List Place) (place : Place) → PassBy bytes at (Whole n) → get_or bytes at 0 < 256
    → length next ≡ 256
    → place ≡ place_at field (at + 1) → next ≡ set places (get_or bytes at 0) (noted (get_or places (get_or bytes at 0) Nowhere) place)
    → Knows areas all (instances_in (drop at bytes) ++ later) places → Knows areas all (instances_in (drop (at + (2 + n)) bytes) ++ later) next
over_noted areas field bytes e at n all later places next place pass below long place_is next_is known =
    subst (λ (p : List Place). Knows areas all (instances_in (drop (at + (2 + n)) bytes) ++ later) p)
    (sym (next_is ∙ ap (λ (p : Place). set places (get_or bytes at 0) (noted (get_or places (get_or bytes at 0) Nowhere) p)) place_is))
    (over_option areas field bytes e at n all later places pass (omega (arith, below, length_is, long)) known)
  where
    length_is : length next ≡ length places
    length_is = ap length next_is ∙ length-set places (get_or bytes at 0) (noted (get_or places (get_or bytes at 0) Nowhere) place)

-- ---- the fields one after another

knows_start : (areas : Areas) (all : List Instance) → Knows areas all all (replicate 256 Nowhere)
knows_start areas all code below =
    subst (λ (p : Place). Told areas p (pieces code all) (pieces code all)) (sym (get_or-replicate 256 code Nowhere Nowhere below)) refl

knows_all : (areas : Areas) (options file sname : List Instance) (first second third : List Place)
    → Notes areas options (replicate 256 Nowhere) first → Notes areas file first second → Notes areas sname second third
    → Knows areas (options ++ file ++ sname) [] third
knows_all areas options file sname first second third a b c =
    c (options ++ file ++ sname) []
    (subst (λ (left : List Instance). Knows areas (options ++ file ++ sname) left second) (sym (append-nil sname))
    (b (options ++ file ++ sname) sname (a (options ++ file ++ sname) (file ++ sname)
    (subst (λ (left : List Instance). Knows areas (options ++ file ++ sname) left (replicate 256 Nowhere)) (append_assoc options file sname)
    (knows_start areas (options ++ file ++ sname))))))

pub knows_view : (view : OptionView) (file sname : Bool) (first second third : List Place) → file ≡ reads_file view.overload → sname ≡ reads_sname view.overload
    → Notes view.areas (instances_in (field_bytes view.areas Options)) (replicate 256 Nowhere) first
    → Notes view.areas (if file then instances_in (field_bytes view.areas File) else []) first second
    → Notes view.areas (if sname then instances_in (field_bytes view.areas Sname) else []) second third
    → Knows view.areas (view_instances view) [] third
knows_view view file sname first second third d e a b c =
    knows_all view.areas (instances_in (field_bytes view.areas Options))
    (if reads_file view.overload then instances_in (field_bytes view.areas File) else [])
    (if reads_sname view.overload then instances_in (field_bytes view.areas Sname) else []) first second third a
    (subst (λ (f : Bool). Notes view.areas (if f then instances_in (field_bytes view.areas File) else []) first second) d b)
    (subst (λ (f : Bool). Notes view.areas (if f then instances_in (field_bytes view.areas Sname) else []) second third) e c)
