-- The search list as a function gives the names of the grammar.
use Rattle.std.proofs.Common.{◌≡◌, ◌≢◌, ℕ, zero, suc, ◌+◌, ◌-◌, ◌*◌, ◌<◌, ◌≤◌, inl, inr, true, false, List, [], ◌∷◌, length, map, take, drop, Option, Some, None, refl, sym, ap, subst, ◌∙◌, arith, eqb, ltb}
use Rattle.std.specs.Prelude.{MatchOption, is_some}
use Rattle.std.specs.Option.{option_map, option_and_then}
use Rattle.std.proofs.Math.Nat.{mul-le-mul_left}
use Rattle.std.proofs.lemmas.Bool.{eqb-true}
use Rattle.domain_names.specs.declared.compressed.Piece.{Piece}
use Rattle.domain_names.specs.declared.compressed.Piece.TheVariants.{End, Label, Pointer, Bad}
use Rattle.domain_names.specs.DomainName.{name_of}
use Rattle.domain_names.specs.CompressedName.{piece_of, Spells, ends, goes_on, points, IsNameAt, AreNames, NoNames}
use Rattle.domain_names.specs.SearchList.{Labels, next_start, next_place, with_piece, labels_within, name_in, names_within, search_in}
use Rattle.domain_names.proofs.Labels.{cases_bool}
use Rattle.domain_names.proofs.Pieces.{room_of, forward}

abbrev some : {A : Type 0} → A → Option A
some x = Some x

some_is : {A : Type 0} (x y : A) → some x ≡ some y → x ≡ y
some_is x y e = cc

same_eq : (a b : ℕ) → a ≡ b → eqb a b ≡ true
same_eq a b h = grind arith

below_eq : (a b : ℕ) → a < b → eqb a b ≡ false
below_eq a b h = grind arith

-- ---- labels

sound_by : (value : List ℕ) (piece : Piece) (start at : ℕ) (later : Option Labels) (m : Labels) → piece_of value start at ≡ piece
    → ((k : Labels) → later ≡ Some k → Spells value (next_start piece start) (next_place piece at) k.0 k.1)
    → with_piece piece value at later ≡ Some m → Spells value start at m.0 m.1
sound_by value End start at later m q h e =
    subst (λ (x : Labels). Spells value start at x.0 x.1) (some_is ([], at + 1) m e) (ends q)
sound_by value (Label n) start at None m q h e = absurd cc
sound_by value (Label n) start at (Some k) m q h e =
    subst (λ (x : Labels). Spells value start at x.0 x.1) (some_is (take n (drop (at + 1) value) ∷ k.0, k.1) m e) (goes_on q (h k refl))
sound_by value (Pointer target) start at None m q h e = absurd cc
sound_by value (Pointer target) start at (Some k) m q h e =
    subst (λ (x : Labels). Spells value start at x.0 x.1) (some_is (k.0, at + 2) m e) (points q (h k refl))
sound_by value Bad start at later m q h e = absurd cc

labels_sound : (more : ℕ) (value : List ℕ) (start at : ℕ) (m : Labels) → labels_within more value start at ≡ Some m → Spells value start at m.0 m.1
unfolding labels_within
labels_sound zero value start at m e = absurd cc
labels_sound (suc more) value start at m e =
    sound_by value (piece_of value start at) start at
    (labels_within more value (next_start (piece_of value start at) start) (next_place (piece_of value start at) at)) m refl
    (λ k f. labels_sound more value (next_start (piece_of value start at) start) (next_place (piece_of value start at) at) k f) e

labels_whole : {value : List ℕ} {start at next : ℕ} {labels : List (List ℕ)} → Spells value start at labels next
    → (more : ℕ) → start * (length value + 1) + (length value - at) < more → labels_within more value start at ≡ Some (labels, next)
unfolding labels_within
labels_whole s zero enough = absurd (omega arith)
labels_whole (ends q) (suc more) enough = rw q refl
labels_whole {value} {start} {at} {next} (goes_on {n = n} {labels = labels} q s) (suc more) enough =
    let room = room_of value start at (Label n) q in
    let later : labels_within more value start (at + 1 + n) ≡ Some (labels, next) = labels_whole {at = at + 1 + n} s more (omega arith) in
    rw (q, later) refl
labels_whole {value} {start} {at} {labels = labels} (points {target = target} {after = after} q s) (suc more) enough =
    let room = room_of value start at (Pointer target) q in
    let falls : target + 1 ≤ start = omega (arith, room.1) in
    let later : labels_within more value target target ≡ Some (labels, after) =
    labels_whole {start = target} {at = target} s more (omega (arith, mul-le-mul_left (length value + 1) falls)) in
    rw (q, later) refl

-- ---- names

named_by : (o : Option Labels) (r : Labels → Option (List ℕ)) (x : List ℕ × ℕ) → option_and_then (λ m. option_map (λ text. (text, m.1)) (r m)) o ≡ Some x
    → (m : Labels) × (o ≡ Some m) × (r m ≡ Some x.0) × (m.1 ≡ x.1)
named_by None r x e = absurd cc
named_by (Some m) r x e = by_name (r m) refl e
  where
    by_name : (t : Option (List ℕ)) → r m ≡ t → option_map (λ text. (text, m.1)) t ≡ Some x → (k : Labels) × (some m ≡ Some k) × (r k ≡ Some x.0) × (k.1 ≡ x.1)
    by_name None q f = absurd cc
    by_name (Some text) q f =
        let same = some_is (text, m.1) x f in
        (m, refl, q ∙ ap (λ (p : List ℕ × ℕ). some p.0) same, ap (λ (p : List ℕ × ℕ). p.1) same)

name_sound : (value : List ℕ) (at : ℕ) (x : List ℕ × ℕ) → name_in value at ≡ Some x → IsNameAt value at x.0 x.1
unfolding name_in
name_sound value at x e =
    let by = named_by (labels_within ((at + 1) * (length value + 1)) value at at) (λ m. name_of m.0) x e in
    record {
      labels = by.0.0;
      spelled = rw by.3 at (labels_sound ((at + 1) * (length value + 1)) value at at by.0 by.1);
      named = by.2;
    }

name_whole : (value : List ℕ) (at : ℕ) (text : List ℕ) (next : ℕ) → IsNameAt value at text next → name_in value at ≡ Some (text, next)
unfolding name_in
name_whole value at text next is =
    let within : labels_within ((at + 1) * (length value + 1)) value at at ≡ Some (is.labels, next) =
    labels_whole is.spelled ((at + 1) * (length value + 1)) (omega arith) in
    rw (within, is.named) refl

names_whole : (more : ℕ) (value : List ℕ) (at : ℕ) (texts : List (List ℕ)) → length value - at ≤ more → AreNames value at texts
    → names_within more value at ≡ Some texts
unfolding names_within
names_whole zero value at [] enough are = rw (same_eq at (length value) are) refl
names_whole (suc more) value at [] enough are = rw (same_eq at (length value) are) refl
names_whole zero value at (text ∷ texts) enough are = let on = forward are.1.spelled in absurd (omega (arith, on.0, on.1))
names_whole (suc more) value at (text ∷ texts) enough are =
    let on = forward are.1.spelled in
    let here : eqb at (length value) ≡ false = below_eq at (length value) (omega (arith, on.0, on.1)) in
    let later : names_within more value are.0 ≡ Some texts = names_whole more value are.0 texts (omega (arith, on.0)) are.2 in
    rw (here, name_whole value at text are.0 are.1, later) refl

more_by : (name : Option (List ℕ × ℕ)) (later : ℕ → Option (List (List ℕ))) (texts : List (List ℕ))
    → option_and_then (λ m. option_map (λ others. m.0 ∷ others) (later m.1)) name ≡ Some texts
    → (m : List ℕ × ℕ) × (others : List (List ℕ)) × (name ≡ Some m) × (later m.1 ≡ Some others) × (m.0 ∷ others ≡ texts)
more_by None later texts e = absurd cc
more_by (Some m) later texts e = by_later (later m.1) refl e
  where
    by_later : (o : Option (List (List ℕ))) → later m.1 ≡ o → option_map (λ others. m.0 ∷ others) o ≡ Some texts
        → (k : List ℕ × ℕ) × (others : List (List ℕ)) × (some m ≡ Some k) × (later k.1 ≡ Some others) × (k.0 ∷ others ≡ texts)
    by_later None q f = absurd cc
    by_later (Some others) q f = (m, others, refl, q, some_is (m.0 ∷ others) texts f)

names_sound : (more : ℕ) (value : List ℕ) (at : ℕ) (texts : List (List ℕ)) → names_within more value at ≡ Some texts → AreNames value at texts
unfolding names_within
names_sound zero value at texts e =
    elim (cases_bool (eqb at (length value))) [
      | inl here ↦ let nothing = some_is [] texts (rw here at e) in subst (λ (t : List (List ℕ)). AreNames value at t) nothing (eqb-true at (length value) here)
      | inr on ↦ let none : None ≡ some texts = rw on at e in absurd cc
    ]
names_sound (suc more) value at texts e =
    elim (cases_bool (eqb at (length value))) [
      | inl here ↦ let nothing = some_is [] texts (rw here at e) in subst (λ (t : List (List ℕ)). AreNames value at t) nothing (eqb-true at (length value) here)
      | inr on ↦
          let by = more_by (name_in value at) (λ next. names_within more value next) texts (rw on at e) in
          subst (λ (t : List (List ℕ)). AreNames value at t) by.4
          (by.0.1, name_sound value at by.0 by.2, names_sound more value by.0.1 by.1 by.3)
    ]

-- ---- the list

search_sound : (value : List ℕ) (texts : List (List ℕ)) → search_in value ≡ Some texts → (texts ≢ []) × AreNames value 0 texts
search_sound value texts e =
    elim (cases_bool (ltb 0 (length value))) [
      | inl filled ↦
          let are = names_sound (length value) value 0 texts (rw filled at e) in (
            λ nothing. let at_end : 0 ≡ length value = subst (λ (t : List (List ℕ)). AreNames value 0 t) nothing are in absurd (grind (arith, at_end, filled)),
            are,
          )
      | inr empty ↦ let none : None ≡ some texts = rw empty at e in absurd cc
    ]

search_whole : (value : List ℕ) (texts : List (List ℕ)) → texts ≢ [] → AreNames value 0 texts → search_in value ≡ Some texts
search_whole value [] filled are = absurd (filled refl)
search_whole value (text ∷ texts) filled are =
    let on = forward are.1.spelled in
    let long : 0 < length value = omega (arith, on.0, on.1) in
    let test : ltb 0 (length value) ≡ true = grind (arith, long) in
    rw (test, names_whole (length value) value 0 (text ∷ texts) (omega arith) are) refl

-- what the grammar says of a value, the function says too
pub names_given : {V X : Type 0} (items : V → List X) (text_of : X → List ℕ) (value : List ℕ) (names : Option V)
    → MatchOption names (NoNames value) (λ v. (items v ≢ []) × AreNames value 0 (map text_of (items v)))
    → option_map (λ v. map text_of (items v)) names ≡ search_in value
names_given {X = X} items text_of value None none = refused (search_in value) refl
  where
    refused : (o : Option (List (List ℕ))) → search_in value ≡ o → None ≡ search_in value
    refused None e = sym e
    refused (Some texts) e = let sound = search_sound value texts e in absurd (none texts sound.0 sound.1)
names_given {X = X} items text_of value (Some v) are = sym (search_whole value (map text_of (items v)) (mapped (items v) are.0) are.1)
  where
    mapped : (xs : List X) → xs ≢ [] → map text_of xs ≢ []
    mapped [] filled e = filled refl
    mapped (x ∷ xs) filled e = absurd cc

pub nothing_given : (value : List ℕ) → length value ≡ 0 → None ≡ search_in value
nothing_given [] empty = refl
nothing_given (b ∷ value) empty = absurd (omega arith)

-- ---- whether there is a list

pub nothing_searched : (value : List ℕ) → length value ≡ 0 → false ≡ is_some (search_in value)
nothing_searched value empty = ap (λ (o : Option (List (List ℕ))). is_some o) (nothing_given value empty)

pub none_searched : (value : List ℕ) → NoNames value → false ≡ is_some (search_in value)
none_searched value none =
    ap (λ (o : Option (List (List ℕ))). is_some o) (names_given (λ (v : List (List ℕ)). v) (λ (text : List ℕ). text) value None none)

pub some_searched : (value : List ℕ) (texts : List (List ℕ)) → 0 < length value → AreNames value 0 texts → true ≡ is_some (search_in value)
some_searched value [] filled are = absurd (omega arith)
some_searched value (text ∷ texts) filled are = rw (search_whole value (text ∷ texts) (λ e. absurd cc) are) refl
