-- Lists of parts with a separator between each two.
use Rattle.std.proofs.Common.{◌≡◌, ◌≢◌, ℕ, suc, ◌+◌, ◌<◌, ◌≤◌, Bool, true, false, not, cond, ◌&&◌, List, [], ◌∷◌, ◌++◌, map, length, take, drop, Option, Some, None, option_map, option_and_then, refl, sym, ap, ◌∙◌, subst, arith, eqb, ltb}
use Rattle.std.specs.List.{position, position_or_len, list_all, slice_split, join_with_byte, AllByRecursion}
use Rattle.std.proofs.lemmas.Bool.{and_from, eq-eqb, not-true, ltb-false}
use Rattle.std.proofs.lemmas.List.{length-append, append_assoc}
use Rattle.std.proofs.lemmas.List.Folds.{list_all-append}
use Rattle.std.specs.List.{All}
use Rattle.std.proofs.lemmas.List.Elements.{All-weaker}
use Rattle.std.proofs.lemmas.List.Sums.{AllPass-from_list_all}
use Rattle.std.proofs.lemmas.List.Splits.{slice_split_none, slice_split_at, length-slice_split, join_with_byte-slice_split}
use Rattle.net_types.specs.Reads.{Reads}
use Rattle.net_types.specs.Marks.{Only, Lacks}
use Rattle.net_types.specs.Cutting.{split_at_byte, read_all, list_at, list_text, FitsList}
use Rattle.net_types.proofs.ReadsLaws.{some_same, passed, split_sound}

each_apart : (separator : ℕ) (text : List ℕ) → Lacks separator text → All (λ b. eqb b separator ≡ false) text
each_apart separator text free =
    All-weaker (λ b. not (eqb b separator) ≡ true) (λ b. eqb b separator ≡ false) (λ b h. not-true _ h) text
    (AllPass-from_list_all (λ b. not (eqb b separator)) text free)

parts_of_join : {X : Type 0} (separator : ℕ) (text_of : X → List ℕ) (x : X) (xs : List X) → AllByRecursion (λ y. Lacks separator (text_of y)) (x ∷ xs)
    → slice_split (λ b. eqb b separator) (join_with_byte separator (map text_of (x ∷ xs))) ≡ map text_of (x ∷ xs)
parts_of_join separator text_of x [] free = slice_split_none (λ b. eqb b separator) (text_of x) (each_apart separator (text_of x) free.0)
parts_of_join separator text_of x (y ∷ ys) free =
    slice_split_at (λ b. eqb b separator) (text_of x) separator (join_with_byte separator (map text_of (y ∷ ys))) (each_apart separator (text_of x) free.0)
    (eq-eqb separator separator refl)
    ∙ ap (λ ts. text_of x ∷ ts) (parts_of_join separator text_of y ys free.1)

all_whole : {X : Type 0} {text_of : X → List ℕ} {Fits : X → Type 0} {found : List ℕ → Option X} (xs : List X) → Reads text_of Fits found
    → AllByRecursion Fits xs → read_all found (map text_of xs) ≡ Some xs
all_whole [] law fits = refl
all_whole (x ∷ xs) law fits = rw (law.whole x fits.0, all_whole xs law fits.1) refl

all_sound : {X : Type 0} {text_of : X → List ℕ} {Fits : X → Type 0} {found : List ℕ → Option X} (parts : List (List ℕ)) (xs : List X) → Reads text_of Fits found
    → read_all found parts ≡ Some xs → (parts ≡ map text_of xs) × AllByRecursion Fits xs
all_sound {text_of = text_of} {Fits = Fits} [] xs law e = let none : [] ≡ xs = some_same e in (ap (map text_of) none, subst (AllByRecursion Fits) none tt)
all_sound {text_of = text_of} {Fits = Fits} {found = found} (part ∷ parts) xs law e =
    let first = passed (found part) _ xs e in
    let others = passed (read_all found parts) _ xs first.gives in
    let s = law.sound part first.value first.was in
    let t = all_sound parts others.value law others.was in
    let whole : first.value ∷ others.value ≡ xs = some_same others.gives in
    (ap (λ p. p ∷ parts) s.0 ∙ ap (λ ps. text_of first.value ∷ ps) t.0 ∙ ap (map text_of) whole, subst (AllByRecursion Fits) whole (s.1, t.1))

lacks_each : {X : Type 0} (text_of : X → List ℕ) (Fits : X → Type 0) (separator : ℕ) → ((x : X) → Fits x → Lacks separator (text_of x)) → (xs : List X)
    → AllByRecursion Fits xs → AllByRecursion (λ y. Lacks separator (text_of y)) xs
lacks_each text_of Fits separator free [] fits = tt
lacks_each text_of Fits separator free (x ∷ xs) fits = (free x fits.0, lacks_each text_of Fits separator free xs fits.1)

pub list_reads : {X : Type 0} {text_of : X → List ℕ} {Fits : X → Type 0} {found : List ℕ → Option X} (separator : ℕ) → Reads text_of Fits found
    → ((x : X) → Fits x → Lacks separator (text_of x)) → Reads (list_text separator text_of) (FitsList Fits) (list_at separator found)
unfolding list_at list_text
list_reads {X} {text_of} {Fits} {found} separator law free = record {
  sound = λ text xs e.
      let s = all_sound (slice_split (λ b. eqb b separator) text) xs law e in
      (sym (join_with_byte-slice_split separator text) ∙ ap (join_with_byte separator) s.0, record { some = λ none. some_part text xs s.0 none; each = s.1 });
  whole = λ xs fits. list_whole xs fits.some fits.each;
}
  where
    some_part : (text : List ℕ) (xs : List X) → slice_split (λ b. eqb b separator) text ≡ map text_of xs → xs ≡ [] → ⊥
    some_part text xs same none =
        let parts : length (slice_split (λ b. eqb b separator) text) ≡ length (map text_of xs) = ap length same in
        let empty : length (map text_of xs) ≡ 0 = ap (λ ys. length (map text_of ys)) none in
        omega (arith, length-slice_split (λ b. eqb b separator) text)

    list_whole : (xs : List X) → xs ≢ [] → AllByRecursion Fits xs
        → read_all found (slice_split (λ b. eqb b separator) (join_with_byte separator (map text_of xs))) ≡ Some xs
    list_whole [] some fits = absurd (some refl)
    list_whole (x ∷ xs) some fits =
        rw (parts_of_join separator text_of x xs (lacks_each text_of Fits separator free (x ∷ xs) fits)) (all_whole (x ∷ xs) law fits)

-- what every part and the separator are made of, the list's text is made of
pub list_only : {X : Type 0} (text_of : X → List ℕ) (Fits : X → Type 0) (separator : ℕ) (test : ℕ → Bool) → test separator ≡ true
    → ((x : X) → Fits x → Only test (text_of x)) → (xs : List X) → AllByRecursion Fits xs → Only test (list_text separator text_of xs)
unfolding list_text
list_only text_of Fits separator test passes each [] fits = refl
list_only text_of Fits separator test passes each (x ∷ []) fits = each x fits.0
list_only text_of Fits separator test passes each (x ∷ y ∷ ys) fits =
    list_all-append test (text_of x) (separator ∷ join_with_byte separator (map text_of (y ∷ ys)))
    ∙ and_from _ _ (each x fits.0) (and_from _ _ passes (list_only text_of Fits separator test passes each (y ∷ ys) fits.1))

-- ---- the steps of the loop over a list

split_parts : (separator : ℕ) (text part others : List ℕ) → split_at_byte separator text ≡ Some (part, others)
    → slice_split (λ b. eqb b separator) text ≡ part ∷ slice_split (λ b. eqb b separator) others
split_parts separator text part others e =
    let cut = split_sound separator text part others e in
    ap (slice_split (λ b. eqb b separator)) cut.0
    ∙ slice_split_at (λ b. eqb b separator) part separator others (each_apart separator part cut.1) (eq-eqb separator separator refl)

pub split_smaller : (separator : ℕ) (text part others : List ℕ) → split_at_byte separator text ≡ Some (part, others) → length others < length text
split_smaller separator text part others e =
    let cut = split_sound separator text part others e in
    let whole : length text ≡ length part + suc (length others) = ap length cut.0 ∙ length-append part (separator ∷ others) in
    omega arith

pub list_bad : {X : Type 0} (found : List ℕ → Option X) (separator : ℕ) (whole : Option (List X)) (items : List X) (text part others : List ℕ)
    → split_at_byte separator text ≡ Some (part, others) → found part ≡ None → whole ≡ option_map (λ xs. items ++ xs) (list_at separator found text)
    → whole ≡ None
unfolding list_at
list_bad found separator whole items text part others cut bad e = e ∙ rw (split_parts separator text part others cut, bad) refl

pub list_more : {X : Type 0} (found : List ℕ → Option X) (separator : ℕ) (whole : Option (List X)) (items : List X) (x : X) (text part others : List ℕ)
    → split_at_byte separator text ≡ Some (part, others) → found part ≡ Some x → whole ≡ option_map (λ xs. items ++ xs) (list_at separator found text)
    → whole ≡ option_map (λ xs. items ++ x ∷ [] ++ xs) (list_at separator found others)
unfolding list_at
list_more {X} found separator whole items x text part others cut read e =
    e ∙ rw (split_parts separator text part others cut, read) (joined (read_all found (slice_split (λ b. eqb b separator) others)))
  where
    joined : (o : Option (List X)) → option_map (λ xs. items ++ xs) (option_and_then (λ xs. Some (x ∷ xs)) o) ≡ option_map (λ xs. items ++ x ∷ [] ++ xs) o
    joined None = refl
    joined (Some xs) = ap (λ ys. Some ys) (sym (append_assoc items (x ∷ []) xs))

abbrev pairs : List ℕ → ℕ → List ℕ × List ℕ
pairs text i = (take i text, drop (i + 1) text)

no_separator : (separator : ℕ) (text : List ℕ) → split_at_byte separator text ≡ None → slice_split (λ b. eqb b separator) text ≡ text ∷ []
unfolding split_at_byte
no_separator separator text e = slice_split_none (λ b. eqb b separator) text (each_apart separator text (all_lack separator text (le_of_none separator text e)))
  where
    le_of_none : (separator : ℕ) (text : List ℕ) → option_map (pairs text) (position (λ b. eqb b separator) text) ≡ None
        → length text ≤ position_or_len (λ b. eqb b separator) text
    le_of_none separator text e =
        elim (ltb (position_or_len (λ b. eqb b separator) text) (length text)) as
        (λ b. ltb (position_or_len (λ b. eqb b separator) text) (length text) ≡ b
        → option_map (pairs text) (cond b (Some (position_or_len (λ b. eqb b separator) text)) None) ≡ None
        → length text ≤ position_or_len (λ b. eqb b separator) text) [
          | true ↦ λ t q. let never : ⊥ = cc in absurd never
          | false ↦ λ t q. ltb-false _ _ t
        ] refl e

    all_lack : (separator : ℕ) (text : List ℕ) → length text ≤ position_or_len (λ b. eqb b separator) text → Lacks separator text
    all_lack separator [] long = refl
    all_lack separator (c ∷ cs) long =
        elim (eqb c separator) as
        (λ b. suc (length cs) ≤ cond (not b) (1 + position_or_len (λ b. eqb b separator) cs) 0 → (not b && list_all (λ b. not (eqb b separator)) cs) ≡ true) [
          | true ↦ λ l. absurd (omega arith)
          | false ↦ λ l. all_lack separator cs (omega arith)
        ] long

pub list_last : {X : Type 0} (found : List ℕ → Option X) (separator : ℕ) (whole : Option (List X)) (items : List X) (x : X) (text : List ℕ)
    → split_at_byte separator text ≡ None → found text ≡ Some x → whole ≡ option_map (λ xs. items ++ xs) (list_at separator found text)
    → whole ≡ Some (items ++ x ∷ [])
unfolding list_at
list_last found separator whole items x text none read e = e ∙ rw (no_separator separator text none, read) refl

pub list_last_bad : {X : Type 0} (found : List ℕ → Option X) (separator : ℕ) (whole : Option (List X)) (items : List X) (text : List ℕ)
    → split_at_byte separator text ≡ None → found text ≡ None → whole ≡ option_map (λ xs. items ++ xs) (list_at separator found text) → whole ≡ None
unfolding list_at
list_last_bad found separator whole items text none bad e = e ∙ rw (no_separator separator text none, bad) refl
