-- Whole options, one after another: what follows them is judged by itself.
use Rattle.std.proofs.Common.{◌≡◌, ℕ, ◌+◌, ◌≤◌, inl, inr, true, List, [], ◌∷◌, ◌++◌, length, take, drop, Option, Some, None, refl, sym, ap, subst, ◌∙◌, append_assoc, arith, ltb}
use Rattle.std.proofs.lemmas.Bool.{le-ltb, ltb-false}
use Rattle.std.proofs.lemmas.List.{append-nil, length-take-le, length-append, take_at, drop_at, take-append-drop}
use Rattle.v6_options.specs.declared.area.Front.TheVariants.{End, Bad, Whole}
use Rattle.v6_options.specs.OptionArea.{field, word_in, has_form, front_of}
use Rattle.v6_options.specs.Nesting.{fields_len, or_else, malformed_held, malformed_in}
use Rattle.v6_options.specs.AreaSteps.{IsWhole, IsBadAt}
use Rattle.v6_options.proofs.Fronts.{cases_bool, front_by, front_cells, room_of, malformed_front, front_nothing}

pub or_else_none : (a : Option ℕ) → or_else a None ≡ a
or_else_none None = refl
or_else_none (Some p) = refl

pub or_else_assoc : (a b c : Option ℕ) → or_else (or_else a b) c ≡ or_else a (or_else b c)
or_else_assoc None b c = refl
or_else_assoc (Some p) b c = refl

-- a whole option is told by its header and its value alone
record IsHeader (w n code len : ℕ) (more : List ℕ) : Type 0 where
  code_is : w ≡ code
  len_is : n ≡ len
  fits : n ≤ length more
  form : has_form w (take n more) ≡ true

header_of : (w n code len : ℕ) (more : List ℕ) → front_by w n more ≡ Whole code len → IsHeader w n code len more
header_of w n code len more e =
    elim (cases_bool (ltb (length more) n)) [
      | inl short ↦ let no : Bad ≡ Whole code len = rw short at e in absurd cc
      | inr fits ↦ elim (cases_bool (has_form w (take n more))) [
        | inl form ↦
            let same : Whole w n ≡ Whole code len = rw (fits, form) at e in
            record { code_is = cc; len_is = cc; fits = ltb-false (length more) n fits; form = form }
        | inr other ↦ let no : Bad ≡ Whole code len = rw (fits, other) at e in absurd cc
      ]
    ]

by_header : (w n code len : ℕ) (more : List ℕ) → IsHeader w n code len more → front_by w n more ≡ Whole code len
by_header w n code len more is =
    rw (le-ltb (length more) n is.fits, is.form) (λ i. Whole (is.code_is i) (is.len_is i))

-- the option at the front of an area, and whatever follows it
abbrev pub option_front : List ℕ → ℕ → List ℕ
option_front area len = take 4 area ++ field 4 len area

pub record OneOption (area : List ℕ) (code len : ℕ) (rest : List ℕ) : Type 0 where
  pub front : front_of (option_front area len ++ rest) ≡ Whole code len
  pub value : field 4 len (option_front area len ++ rest) ≡ field 4 len area
  pub after : drop len (drop 4 (option_front area len ++ rest)) ≡ rest
  pub size : length (option_front area len) ≡ 4 + len
  pub parts : option_front area len ++ drop len (drop 4 area) ≡ area

pub one_option : (area : List ℕ) (code len : ℕ) (rest : List ℕ) → front_of area ≡ Whole code len → OneOption area code len rest
one_option [] code len rest e = let room = room_of [] (Whole code len) e in absurd (omega (arith, room.0))
one_option (a ∷ []) code len rest e = let room = room_of (a ∷ []) (Whole code len) e in absurd (omega (arith, room.0))
one_option (a ∷ b ∷ []) code len rest e = let room = room_of (a ∷ b ∷ []) (Whole code len) e in absurd (omega (arith, room.0))
one_option (a ∷ b ∷ c ∷ []) code len rest e = let room = room_of (a ∷ b ∷ c ∷ []) (Whole code len) e in absurd (omega (arith, room.0))
one_option (a ∷ b ∷ c ∷ d ∷ more) code len rest e =
    let w = word_in 0 (a ∷ b ∷ []) in
    let n = word_in 0 (c ∷ d ∷ []) in
    let is = header_of w n code len more (sym (front_cells a b c d more) ∙ e) in
    let fits : len ≤ length more = omega (arith, is.fits, is.len_is) in
    let taken : length (take len more) ≡ len = length-take-le len more fits in
    let cut : take len (take len more ++ rest) ≡ take len more = take_at (take len more) rest len taken in
    let long : n ≤ length (take len more ++ rest) = omega (arith, is.len_is, taken, length-append (take len more) rest) in
    let form : has_form w (take n (take len more ++ rest)) ≡ true =
    rw (is.len_is, cut) (subst (λ (k : ℕ). has_form w (take k more) ≡ true) is.len_is is.form) in
    record {
      front = front_cells a b c d (take len more ++ rest) ∙ by_header w n code len (take len more ++ rest)
          (record { code_is = is.code_is; len_is = is.len_is; fits = long; form = form });
      value = cut;
      after = drop_at (take len more) rest len taken;
      size = omega (arith, taken);
      parts = ap (λ (m : List ℕ). a ∷ b ∷ c ∷ d ∷ m) (take-append-drop len more);
    }

pub none_at_end : (at : ℕ) → malformed_in at [] ≡ None
none_at_end at = malformed_front at [] End front_nothing

-- ---- an option by itself

module _ (area : List ℕ) (code len : ℕ) (e : front_of area ≡ Whole code len) where
  abbrev held : ℕ → Option ℕ
  held at = malformed_held (fields_len code) at (field 4 len area) malformed_in

  abbrev option : List ℕ
  option = option_front area len

  with_rest : (at : ℕ) (rest : List ℕ) → malformed_in at (option ++ rest) ≡ or_else (held at) (malformed_in (at + 4 + len) rest)
  with_rest at rest =
      let one = one_option area code len rest e in
      malformed_front at (option ++ rest) (Whole code len) one.front
      ∙ (λ i. or_else (malformed_held (fields_len code) at (one.value i) malformed_in) (malformed_in (at + 4 + len) (one.after i)))

  alone : (at : ℕ) → malformed_in at option ≡ held at
  alone at =
      ap (malformed_in at) (sym (append-nil option)) ∙ with_rest at []
      ∙ ap (or_else (held at)) (none_at_end (at + 4 + len)) ∙ or_else_none (held at)

  pub one_whole : IsWhole option
  one_whole at rest =
      let one = one_option area code len rest e in
      let places : at + 4 + len ≡ at + length option = omega (arith, one.size) in
      with_rest at rest ∙ (λ i. or_else (sym (alone at) i) (malformed_in (places i) rest))

pub both_whole : (xs ys : List ℕ) → IsWhole xs → IsWhole ys → IsWhole (xs ++ ys)
both_whole xs ys x y at rest =
    let places : at + length xs + length ys ≡ at + length (xs ++ ys) = omega (arith, length-append xs ys) in
    ap (malformed_in at) (append_assoc xs ys rest)
    ∙ x at (ys ++ rest)
    ∙ ap (or_else (malformed_in at xs)) (y (at + length xs) rest)
    ∙ sym (or_else_assoc (malformed_in at xs) (malformed_in (at + length xs) ys) (malformed_in (at + length xs + length ys) rest))
    ∙ (λ i. or_else (sym (x at ys) i) (malformed_in (places i) rest))

pub nothing_whole : IsWhole []
nothing_whole at rest =
    let places : at ≡ at + 0 = omega arith in
    ap (λ (n : ℕ). malformed_in n rest) places ∙ ap (λ (o : Option ℕ). or_else o (malformed_in (at + 0) rest)) (sym (none_at_end at))

-- ---- the walk over an area

-- whole options up to a place, and what is left
pub record IsPassed (area rest : List ℕ) (at : ℕ) : Type 0 where
  pub before : List ℕ
  pub split : area ≡ before ++ rest
  pub whole : IsWhole before
  pub place : at ≡ length before

pub nothing_passed : (area : List ℕ) → IsPassed area area 0
nothing_passed area = record { before = []; split = refl; whole = nothing_whole; place = refl }

pub one_passed : (area rest : List ℕ) (at code len : ℕ) → IsPassed area rest at → front_of rest ≡ Whole code len
    → IsPassed area (drop len (drop 4 rest)) (at + (4 + len))
one_passed area rest at code len p e =
    let one = one_option rest code len [] e in
    record {
      before = p.before ++ option_front rest len;
      split = p.split ∙ ap (λ (xs : List ℕ). p.before ++ xs) (sym one.parts) ∙ sym (append_assoc p.before (option_front rest len) (drop len (drop 4 rest)));
      whole = both_whole p.before (option_front rest len) p.whole (one_whole rest code len e);
      place = omega (arith, p.place, one.size, length-append p.before (option_front rest len));
    }

pub all_passed : (area rest : List ℕ) (at : ℕ) → IsPassed area rest at → length rest ≡ 0 → IsWhole area
all_passed area [] at p empty = subst (λ (xs : List ℕ). IsWhole xs) (sym (p.split ∙ append-nil p.before)) p.whole
all_passed area (b ∷ rest) at p empty = absurd (omega arith)

pub bad_passed : (area rest : List ℕ) (at : ℕ) → IsPassed area rest at → front_of rest ≡ Bad → IsBadAt area at
bad_passed area rest at p e = record {
  within = omega (arith, p.place, ap length p.split, length-append p.before rest);
  judged = λ begins.
      let taken : take at area ≡ p.before = ap (take at) p.split ∙ take_at p.before rest at (sym p.place) in
      let places : begins + length p.before ≡ begins + at = omega (arith, p.place) in
      ap (malformed_in begins) p.split ∙ p.whole begins rest
      ∙ ap (or_else (malformed_in begins p.before)) (malformed_front (begins + length p.before) rest Bad e ∙ ap (λ (n : ℕ). Some n) places)
      ∙ ap (λ (xs : List ℕ). or_else (malformed_in begins xs) (Some (begins + at))) (sym taken);
}
