-- A choice by the first word. For a type of several texts, each after its word, the form is: a list `choices` of words
-- and readers, the reader `choose_at choices`, one `part_sound` and one `part_chosen` a word, and `choose_reads`.
use Rattle.std.proofs.Common.{◌≡◌, ℕ, zero, suc, Bool, true, false, cond, ◌&&◌, List, [], ◌∷◌, ◌++◌, Option, Some, None, option_map, refl, sym, ap, ◌∙◌, subst, inl, inr, ◌⊎◌, eqb, nat_eq}
use Rattle.std.specs.List.{starts_with, list_all, slice_get, AllByRecursion}
use Rattle.std.proofs.lemmas.Bool.{and_parts, both_ways}
use Rattle.std.proofs.lemmas.List.Folds.{list_all-append}
use Rattle.net_types.specs.Reads.{Reads}
use Rattle.net_types.specs.Marks.{Only}
use Rattle.net_types.specs.Cutting.{strip_word, by_word, choice_at, Choices, choose_at, differ, all_differ}
use Rattle.net_types.proofs.ReadsLaws.{some_same, mapped, strip_whole, strip_sound}

apart_starts : (word other rest : List ℕ) → differ word other ≡ true → starts_with nat_eq (other ++ rest) word ≡ false
apart_starts [] other rest apart = cc
apart_starts (w ∷ ws) [] rest apart = cc
apart_starts (w ∷ ws) (c ∷ cs) rest apart =
    elim (eqb w c) as (λ b. eqb w c ≡ b → cond b (differ ws cs) true ≡ true → (b && starts_with nat_eq (cs ++ rest) ws) ≡ false) [
      | true ↦ λ t q. apart_starts ws cs rest q
      | false ↦ λ t q. refl
    ] refl apart

-- a text that begins with one of two words that differ doesn't begin with the other
pub words_apart : (word other rest : List ℕ) → differ word other ≡ true → strip_word word (other ++ rest) ≡ None
unfolding strip_word
words_apart word other rest apart = rw (apart_starts word other rest apart) refl

-- a text of bytes that pass a test doesn't begin with a word that has another byte
pub no_such_word : (test : ℕ → Bool) (word text : List ℕ) → Only test text → list_all test word ≡ false → strip_word word text ≡ None
no_such_word test word text only other = none_of (strip_word word text) refl
  where
    none_of : (o : Option (List ℕ)) → strip_word word text ≡ o → strip_word word text ≡ None
    none_of None was = was
    none_of (Some rest) was =
        let spelled : text ≡ word ++ rest = strip_sound word text rest was in
        let passes : list_all test (word ++ rest) ≡ true = subst (λ t. Only test t) spelled only in
        let parts = and_parts (list_all test word) (list_all test rest) (sym (list_all-append test word rest) ∙ passes) in
        absurd (both_ways _ other parts.0)

-- what is read after the word is spelled by the word and then its own text
abbrev pub ChoiceSound : {X : Type 0} → (X → List ℕ) → (X → Type 0) → List ℕ × (List ℕ → Option X) → Type 0
ChoiceSound {X} text_of Fits choice = (rest : List ℕ) (x : X) → choice.1 rest ≡ Some x → (choice.0 ++ rest ≡ text_of x) × Fits x

-- one of the choices reads x from its text
pub record Chosen {X : Type 0} (choices : Choices X) (text_of : X → List ℕ) (x : X) : Type 0 where
  pub word : List ℕ
  pub read : List ℕ → Option X
  pub index : ℕ
  pub member : slice_get choices index ≡ Some (word, read)
  pub rest : List ℕ
  pub spelled : text_of x ≡ word ++ rest
  pub gives : read rest ≡ Some x

pub part_sound : {A X : Type 0} {text_a : A → List ℕ} {FitsA : A → Type 0} {read_a : List ℕ → Option A} (text_of : X → List ℕ) (Fits : X → Type 0)
    (word : List ℕ) (make : A → X)
    → Reads text_a FitsA read_a → ((a : A) → text_of (make a) ≡ word ++ text_a a) → ((a : A) → FitsA a → Fits (make a))
    → ChoiceSound text_of Fits (word, λ rest. option_map make (read_a rest))
part_sound text_of Fits word make law spelled to rest x e =
    let m = mapped make _ x e in
    let s = law.sound rest m.value m.was in
    (ap (λ r. word ++ r) s.0 ∙ sym (spelled m.value) ∙ ap text_of m.gives, subst Fits m.gives (to m.value s.1))

pub part_chosen : {A X : Type 0} {text_a : A → List ℕ} {FitsA : A → Type 0} {read_a : List ℕ → Option A} (choices : Choices X) (text_of : X → List ℕ)
    (index : ℕ) (word : List ℕ) (make : A → X) (a : A)
    → Reads text_a FitsA read_a → slice_get choices index ≡ Some (word, λ rest. option_map make (read_a rest)) → text_of (make a) ≡ word ++ text_a a → FitsA a
    → Chosen choices text_of (make a)
part_chosen {text_a = text_a} {read_a = read_a} choices text_of index word make a law member spelled fits = record {
  word = word;
  read = λ rest. option_map make (read_a rest);
  index = index;
  member = member;
  rest = text_a a;
  spelled = spelled;
  gives = ap (λ o. option_map make o) (law.whole a fits);
}

choose_sound : {X : Type 0} (text_of : X → List ℕ) (Fits : X → Type 0) (choices : Choices X) → AllByRecursion (ChoiceSound text_of Fits) choices
    → (text : List ℕ) (x : X) → choose_at choices text ≡ Some x → (text ≡ text_of x) × Fits x
choose_sound text_of Fits [] sounds text x e = cc
choose_sound {X} text_of Fits (choice ∷ choices) sounds text x e =
    by_cases (choose_sound text_of Fits choices sounds.1 text x) (strip_word choice.0 text) refl e
  where
    by_cases : (choose_at choices text ≡ Some x → (text ≡ text_of x) × Fits x) → (o : Option (List ℕ)) → strip_word choice.0 text ≡ o
        → by_word o choice.1 (choose_at choices text) ≡ Some x → (text ≡ text_of x) × Fits x
    by_cases later (Some rest) was q =
        let s = sounds.0 rest x q in
        (strip_sound choice.0 text rest was ∙ s.0, s.1)
    by_cases later None was q = later q

differs_at : {X : Type 0} (word : List ℕ) (choices : Choices X) (index : ℕ) (choice : List ℕ × (List ℕ → Option X))
    → list_all (λ other. differ word other.0) choices ≡ true → slice_get choices index ≡ Some choice → differ word choice.0 ≡ true
differs_at word [] index choice apart member = cc
differs_at word (c ∷ cs) zero choice apart member = subst (λ d. differ word d.0 ≡ true) (some_same member) (and_parts (differ word c.0) _ apart).0
differs_at word (c ∷ cs) (suc index) choice apart member = differs_at word cs index choice (and_parts (differ word c.0) _ apart).1 member

choose_whole : {X : Type 0} (choices : Choices X) (index : ℕ) (word : List ℕ) (read : List ℕ → Option X) (rest : List ℕ) → all_differ choices ≡ true
    → slice_get choices index ≡ Some (word, read) → choose_at choices (word ++ rest) ≡ read rest
choose_whole [] index word read rest apart member = cc
choose_whole (c ∷ cs) zero word read rest apart member =
    let first : c.0 ≡ word = ap (λ d. d.0) (some_same member) in
    let second : c.1 ≡ read = ap (λ d. d.1) (some_same member) in
    let strip : strip_word c.0 (word ++ rest) ≡ Some rest = subst (λ w. strip_word c.0 (w ++ rest) ≡ Some rest) first (strip_whole c.0 rest) in
    rw strip (ap (λ r. r rest) second)
choose_whole (c ∷ cs) (suc index) word read rest apart member =
    let parts = and_parts (list_all (λ other. differ c.0 other.0) cs) (all_differ cs) apart in
    let other : strip_word c.0 (word ++ rest) ≡ None = words_apart c.0 word rest (differs_at c.0 cs index (word, read) parts.0 member) in
    rw other (choose_whole cs index word read rest parts.1 member)

-- the law of a choice: the words differ, each reading is sound, and each value is spelled by one of the choices
pub choose_reads : {X : Type 0} {text_of : X → List ℕ} {Fits : X → Type 0} (choices : Choices X) → all_differ choices ≡ true
    → AllByRecursion (ChoiceSound text_of Fits) choices → ((x : X) → Fits x → Chosen choices text_of x) → Reads text_of Fits (choose_at choices)
choose_reads {X} {text_of} {Fits} choices apart sounds chosen = record {
  sound = choose_sound text_of Fits choices sounds;
  whole = λ x fits.
      let c = chosen x fits in
      ap (choose_at choices) c.spelled ∙ choose_whole choices c.index c.word c.read c.rest apart c.member ∙ c.gives;
}

-- two readings, one after a word and another for texts that don't begin with it
pub choice_reads : {X : Type 0} {text_of : X → List ℕ} {Fits : X → Type 0} {others : List ℕ → Option X} (word : List ℕ) (read : List ℕ → Option X)
    (IsOther : X → Type 0)
    → ChoiceSound text_of Fits (word, read) → Reads text_of (λ x. Fits x × IsOther x) others
    → ((x : X) → Fits x → Chosen ((word, read) ∷ []) text_of x ⊎ IsOther x) → ((x : X) → Fits x → IsOther x → strip_word word (text_of x) ≡ None)
    → Reads text_of Fits (choice_at word read others)
choice_reads {X} {text_of} {Fits} {others} word read IsOther sound law cases apart = record {
  sound = λ text x e. by_cases text x (strip_word word text) refl e;
  whole = λ x fits. of_case x fits (cases x fits);
}
  where
    by_cases : (text : List ℕ) (x : X) (o : Option (List ℕ)) → strip_word word text ≡ o → by_word o read (others text) ≡ Some x → (text ≡ text_of x) × Fits x
    by_cases text x (Some rest) was q = let s = sound rest x q in (strip_sound word text rest was ∙ s.0, s.1)
    by_cases text x None was q = let s = law.sound text x q in (s.0, s.1.0)

    of_case : (x : X) → Fits x → Chosen ((word, read) ∷ []) text_of x ⊎ IsOther x → choice_at word read others (text_of x) ≡ Some x
    of_case x fits (inr other) = rw (apart x fits other) (law.whole x (fits, other))
    of_case x fits (inl c) = of_chosen x c.index c.word c.read c.rest c.member c.spelled c.gives
      where
        of_chosen : (x : X) (index : ℕ) (w : List ℕ) (r : List ℕ → Option X) (rest : List ℕ)
            → slice_get {X = List ℕ × (List ℕ → Option X)} ((word, read) ∷ []) index ≡ Some (w, r) → text_of x ≡ w ++ rest → r rest ≡ Some x
            → choice_at word read others (text_of x) ≡ Some x
        of_chosen x (suc index) w r rest member spelled gives = cc
        of_chosen x zero w r rest member spelled gives =
            let first : word ≡ w = ap (λ d. d.0) (some_same member) in
            let second : read ≡ r = ap (λ d. d.1) (some_same member) in
            let strip : strip_word word (text_of x) ≡ Some rest =
            ap (strip_word word) spelled ∙ subst (λ v. strip_word word (v ++ rest) ≡ Some rest) first (strip_whole word rest) in
            rw strip (ap (λ f. f rest) second ∙ gives)
