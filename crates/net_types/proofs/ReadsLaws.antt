-- How a reader's law is made of the laws of its parts.
use Rattle.std.proofs.Common.{◌≡◌, ◌≢◌, ℕ, suc, ◌+◌, ◌<◌, Bool, true, false, not, cond, List, [], ◌∷◌, ◌++◌, length, take, drop, Option, Some, None, option_map, option_and_then, refl, sym, ap, ◌∙◌, subst, arith, eqb, ltb, nat_eq, IsTrue}
use Rattle.std.specs.List.{starts_with, position_or_len}
use Rattle.std.proofs.lemmas.Bool.{and_parts, and_from, not_from_false, eqb-true, eq-eqb, lt-ltb, ltb-true}
use Rattle.std.proofs.lemmas.Bool.Decides.{nat_tests}
use Rattle.std.proofs.lemmas.List.{take_at, drop_at, length-append, append_assoc}
use Rattle.net_types.specs.Reads.{Reads}
use Rattle.net_types.specs.Marks.{Lacks}
use Rattle.net_types.specs.Cutting.{strip_word, split_at_byte, after_word, field_at, pair_at, end_at, guarded}

-- unlike values that fit have unlike texts
pub texts_apart : {X : Type 0} {text_of : X → List ℕ} {Fits : X → Type 0} {found : List ℕ → Option X} → Reads text_of Fits found → (x y : X) → Fits x → Fits y
    → text_of x ≡ text_of y → x ≡ y
texts_apart {X} {text_of} {Fits} {found} law x y fx fy e =
    let both : Some x ≡ Some y = sym (law.whole x fx) ∙ ap found e ∙ law.whole y fy in cc

pub some_same : {X : Type 0} {x y : X} → Some x ≡ Some y → x ≡ y
some_same {X} {x} {y} e = cc

-- ---- steps

-- a step that gave y, and the value before it
pub record Passed {A B : Type 0} (o : Option A) (f : A → Option B) (y : B) : Type 0 where
  pub value : A
  pub was : o ≡ Some value
  pub gives : f value ≡ Some y

pub passed : {A B : Type 0} (o : Option A) (f : A → Option B) (y : B) → option_and_then f o ≡ Some y → Passed o f y
passed None f y e = cc
passed (Some x) f y e = record { value = x; was = refl; gives = e }

pub step : {A B : Type 0} (o : Option A) (f : A → Option B) (x : A) → o ≡ Some x → option_and_then f o ≡ f x
step o f x e = ap (λ q. option_and_then f q) e

-- a mapped value, and the one before it
pub record Mapped {A B : Type 0} (f : A → B) (o : Option A) (y : B) : Type 0 where
  pub value : A
  pub was : o ≡ Some value
  pub gives : f value ≡ y

pub mapped : {A B : Type 0} (f : A → B) (o : Option A) (y : B) → option_map f o ≡ Some y → Mapped f o y
mapped f None y e = cc
mapped f (Some x) y e = record { value = x; was = refl; gives = some_same e }

pub steps_assoc : {A B C : Type 0} (o : Option A) (f : A → Option B) (g : B → Option C)
    → option_and_then g (option_and_then f o) ≡ option_and_then (λ x. option_and_then g (f x)) o
steps_assoc None f g = refl
steps_assoc (Some x) f g = refl

-- the same reader under another definition
pub same_reader : {X : Type 0} {text_of : X → List ℕ} {Fits : X → Type 0} {found : List ℕ → Option X} (other : List ℕ → Option X)
    → ((text : List ℕ) → other text ≡ found text) → Reads text_of Fits found → Reads text_of Fits other
same_reader other same law = record {
  sound = λ text x e. law.sound text x (sym (same text) ∙ e);
  whole = λ x fits. same _ ∙ law.whole x fits;
}

-- the same texts under another definition
pub same_texts : {X : Type 0} {text_of : X → List ℕ} {Fits : X → Type 0} {found : List ℕ → Option X} (other : X → List ℕ) → ((x : X) → other x ≡ text_of x)
    → Reads text_of Fits found → Reads other Fits found
same_texts {found = found} other same law = record {
  sound = λ text x e. ((law.sound text x e).0 ∙ sym (same x), (law.sound text x e).1);
  whole = λ x fits. ap found (same x) ∙ law.whole x fits;
}

pub same_texts_where : {X : Type 0} {text_of : X → List ℕ} {Fits : X → Type 0} {found : List ℕ → Option X} (other : X → List ℕ)
    → ((x : X) → Fits x → other x ≡ text_of x) → Reads text_of Fits found → Reads other Fits found
same_texts_where {found = found} other same law = record {
  sound = λ text x e. let s = law.sound text x e in (s.0 ∙ sym (same x s.1), s.1);
  whole = λ x fits. ap found (same x fits) ∙ law.whole x fits;
}

-- the same range in other words
pub same_range : {X : Type 0} {text_of : X → List ℕ} {Fits : X → Type 0} {found : List ℕ → Option X} (Other : X → Type 0) → ((x : X) → Other x → Fits x)
    → ((x : X) → Fits x → Other x) → Reads text_of Fits found → Reads text_of Other found
same_range Other to from law = record {
  sound = λ text x e. ((law.sound text x e).0, from x (law.sound text x e).1);
  whole = λ x fits. law.whole x (to x fits);
}

-- a text that isn't read spells no value
pub spells_none : {X : Type 0} {text_of : X → List ℕ} {Fits : X → Type 0} {found : List ℕ → Option X} (text : List ℕ) → Reads text_of Fits found
    → found text ≡ None → (x : X) → Fits x → text ≢ text_of x
spells_none {X} {text_of} {Fits} {found} text law none x fits e =
    let both : None ≡ Some x = sym none ∙ ap found e ∙ law.whole x fits in cc

-- ---- a word in front

front_is : (word text : List ℕ) → starts_with nat_eq text word ≡ true → text ≡ word ++ drop (length word) text
front_is [] text e = refl
front_is (w ∷ ws) [] e = cc
front_is (w ∷ ws) (c ∷ cs) e =
    let parts : (eqb w c ≡ true) × (starts_with nat_eq cs ws ≡ true) = and_parts _ _ e in
    let same : w ≡ c = eqb-true w c parts.0 in
    let rest : cs ≡ ws ++ drop (length ws) cs = front_is ws cs parts.1 in
    cc

begins : (word rest : List ℕ) → starts_with nat_eq (word ++ rest) word ≡ true
begins [] rest = refl
begins (w ∷ ws) rest = rw (eq-eqb w w refl) (begins ws rest)

pub strip_whole : (word rest : List ℕ) → strip_word word (word ++ rest) ≡ Some rest
unfolding strip_word
strip_whole word rest = rw (begins word rest, drop_at word rest (length word) refl) refl

pub strip_sound : (word text rest : List ℕ) → strip_word word text ≡ Some rest → text ≡ word ++ rest
unfolding strip_word
strip_sound word text rest e =
    elim (starts_with nat_eq text word) as
    (λ b. starts_with nat_eq text word ≡ b → cond b (Some (drop (length word) text)) None ≡ Some rest → text ≡ word ++ rest) [
      | true ↦ λ t q. let r : drop (length word) text ≡ rest = cc in subst (λ z. text ≡ word ++ z) r (front_is word text t)
      | false ↦ λ t q. let never : ⊥ = cc in absurd never
    ] refl e

pub word_reads : {X : Type 0} {text_of : X → List ℕ} {Fits : X → Type 0} {found : List ℕ → Option X} (word : List ℕ) → Reads text_of Fits found
    → Reads (λ x. word ++ text_of x) Fits (after_word word found)
word_reads {X} {text_of} {Fits} {found} word law = record {
  sound = λ text x e.
      let p = passed (strip_word word text) found x e in
      let s = law.sound p.value x p.gives in
      (strip_sound word text p.value p.was ∙ ap (λ r. word ++ r) s.0, s.1);
  whole = λ x fits. step _ found (text_of x) (strip_whole word (text_of x)) ∙ law.whole x fits;
}

-- ---- the first separator

at_next : (separator c n : ℕ) (cs : List ℕ) → eqb c separator ≡ false → (cs ≡ take n cs ++ separator ∷ drop (n + 1) cs) × Lacks separator (take n cs)
    → (c ∷ cs ≡ take (1 + n) (c ∷ cs) ++ separator ∷ drop (1 + n + 1) (c ∷ cs)) × Lacks separator (take (1 + n) (c ∷ cs))
at_next separator c n cs other later =
    let here : 1 + n ≡ suc n = omega arith in
    let after : 1 + n + 1 ≡ suc (n + 1) = omega arith in
    rw (after, here) (ap (λ r. c ∷ r) later.0, and_from _ _ (not_from_false _ other) later.1)

cut_at : (separator : ℕ) (text : List ℕ) → position_or_len (λ b. eqb b separator) text < length text
    → (text ≡ take (position_or_len (λ b. eqb b separator) text) text ++ separator ∷ drop (position_or_len (λ b. eqb b separator) text + 1) text)
    × Lacks separator (take (position_or_len (λ b. eqb b separator) text) text)
cut_at separator [] small = absurd (omega arith)
cut_at separator (c ∷ cs) small =
    elim (eqb c separator) as
    (λ b. eqb c separator ≡ b → cond (not b) (1 + position_or_len (λ b. eqb b separator) cs) 0 < suc (length cs)
    →
    (c ∷ cs
    ≡ take (cond (not b) (1 + position_or_len (λ b. eqb b separator) cs) 0) (c ∷ cs)
    ++ separator ∷ drop (cond (not b) (1 + position_or_len (λ b. eqb b separator) cs) 0 + 1) (c ∷ cs))
    × Lacks separator (take (cond (not b) (1 + position_or_len (λ b. eqb b separator) cs) 0) (c ∷ cs))) [
      | true ↦ λ t q. (ap (λ d. d ∷ cs) (eqb-true c separator t), refl)
      | false ↦ λ t q. at_next separator c (position_or_len (λ b. eqb b separator) cs) cs t (cut_at separator cs (omega arith))
    ] refl small

place_past : (separator : ℕ) (front rest : List ℕ) → Lacks separator front → position_or_len (λ b. eqb b separator) (front ++ separator ∷ rest) ≡ length front
place_past separator [] rest free = rw (eq-eqb separator separator refl) refl
place_past separator (c ∷ cs) rest free =
    let parts : (not (eqb c separator) ≡ true) × Lacks separator cs = and_parts _ _ free in
    let later : position_or_len (λ b. eqb b separator) (cs ++ separator ∷ rest) ≡ length cs = place_past separator cs rest parts.1 in
    rw (parts.0, later) (omega arith)

pub split_whole : (separator : ℕ) (front rest : List ℕ) → Lacks separator front → split_at_byte separator (front ++ separator ∷ rest) ≡ Some (front, rest)
unfolding split_at_byte
split_whole separator front rest free =
    let small : length front < length (front ++ separator ∷ rest) = simp length-append (omega arith) in
    let past : drop (length front + 1) (front ++ separator ∷ rest) ≡ rest = split_drop separator front rest in
    rw (place_past separator front rest free, lt-ltb _ _ small, take_at front (separator ∷ rest) (length front) refl, past) refl
  where
    split_drop : (separator : ℕ) (front rest : List ℕ) → drop (length front + 1) (front ++ separator ∷ rest) ≡ rest
    split_drop separator front rest =
        let two : front ++ separator ∷ rest ≡ (front ++ separator ∷ []) ++ rest = sym (append_assoc front (separator ∷ []) rest) in
        rw two (drop_at (front ++ separator ∷ []) rest (length front + 1) (simp length-append (omega arith)))

pub split_sound : (separator : ℕ) (text front rest : List ℕ) → split_at_byte separator text ≡ Some (front, rest)
    → (text ≡ front ++ separator ∷ rest) × Lacks separator front
unfolding split_at_byte
split_sound separator text front rest e =
    let n = position_or_len (λ b. eqb b separator) text in
    let both : List ℕ × List ℕ = (front, rest) in
    let parts : ℕ → List ℕ × List ℕ = λ i. (take i text, drop (i + 1) text) in
    elim (ltb n (length text)) as
    (λ b. ltb n (length text) ≡ b → option_map parts (cond b (Some n) None) ≡ Some both → (text ≡ front ++ separator ∷ rest) × Lacks separator front) [
      | true ↦ λ t q.
          let here = cut_at separator text (ltb-true _ _ t) in
          let one : take n text ≡ front = ap (λ r. r.0) (some_same q) in
          let two : drop (n + 1) text ≡ rest = ap (λ r. r.1) (some_same q) in (
            subst (λ r. text ≡ front ++ separator ∷ r) two (subst (λ f. text ≡ f ++ separator ∷ drop (n + 1) text) one here.0),
            subst (λ f. Lacks separator f) one here.1,
          )
      | false ↦ λ t q. let never : ⊥ = cc in absurd never
    ] refl e

-- one field, read before the separator, and what follows it
pub field_whole : {X : Type 0} {text_of : X → List ℕ} {Fits : X → Type 0} {found : List ℕ → Option X} (separator : ℕ) (x : X) (rest : List ℕ)
    → Reads text_of Fits found → Fits x → Lacks separator (text_of x) → field_at separator found (text_of x ++ separator ∷ rest) ≡ Some (x, rest)
field_whole {text_of = text_of} separator x rest law fits free = rw (split_whole separator (text_of x) rest free, law.whole x fits) refl

pub record FieldSound {X : Type 0} (text_of : X → List ℕ) (Fits : X → Type 0) (separator : ℕ) (text : List ℕ) (field : X × List ℕ) : Type 0 where
  pub spelled : text ≡ text_of field.0 ++ separator ∷ field.1
  pub fits : Fits field.0

pub field_sound : {X : Type 0} {text_of : X → List ℕ} {Fits : X → Type 0} {found : List ℕ → Option X} (separator : ℕ) (text : List ℕ) (field : X × List ℕ)
    → Reads text_of Fits found → field_at separator found text ≡ Some field → FieldSound text_of Fits separator text field
field_sound {X} {text_of} {Fits} {found} separator text field law e =
    let parts = passed (split_at_byte separator text) _ field e in
    let read = passed (found parts.value.0) _ field parts.gives in
    let one : read.value ≡ field.0 = ap (λ p. p.0) (some_same read.gives) in
    let two : parts.value.1 ≡ field.1 = ap (λ p. p.1) (some_same read.gives) in
    let cut = split_sound separator text parts.value.0 parts.value.1 parts.was in
    let s = law.sound parts.value.0 read.value read.was in
    record {
      spelled = cut.0 ∙ ap (λ f. f ++ separator ∷ parts.value.1) (s.0 ∙ ap text_of one) ∙ ap (λ r. text_of field.0 ++ separator ∷ r) two;
      fits = subst Fits one s.1;
    }

pub pair_reads : {X Y : Type 0} {text_x : X → List ℕ} {FitsX : X → Type 0} {read_x : List ℕ → Option X} {text_y : Y → List ℕ} {FitsY : Y → Type 0}
    {read_y : List ℕ → Option Y} (separator : ℕ)
    → Reads text_x FitsX read_x → Reads text_y FitsY read_y → ((x : X) → FitsX x → Lacks separator (text_x x))
    → Reads (λ (p : X × Y). text_x p.0 ++ separator ∷ text_y p.1) (λ p. FitsX p.0 × FitsY p.1) (pair_at separator read_x read_y)
pair_reads {X} {Y} {text_x} {FitsX} {read_x} {text_y} {FitsY} {read_y} separator law_x law_y free = record {
  sound = λ text p e.
      let first = passed (field_at separator read_x text) _ p e in
      let second = passed (read_y first.value.1) _ p first.gives in
      let f = field_sound separator text first.value law_x first.was in
      let s = law_y.sound first.value.1 second.value second.was in
      let one : first.value.0 ≡ p.0 = ap (λ q. q.0) (some_same second.gives) in
      let two : second.value ≡ p.1 = ap (λ q. q.1) (some_same second.gives) in (
        f.spelled ∙ ap (λ r. text_x first.value.0 ++ separator ∷ r) (s.0 ∙ ap text_y two) ∙ ap (λ x. text_x x ++ separator ∷ text_y p.1) one,
        (subst FitsX one f.fits, subst FitsY two s.1),
      );
  whole = λ p fits.
      step _ _ (p.0, text_y p.1) (field_whole separator p.0 (text_y p.1) law_x fits.0 (free p.0 fits.0))
      ∙ step _ _ p.1 (law_y.whole p.1 fits.1);
}

-- no text, where nothing is left to choose
pub nothing_reads : {X : Type 0} {text_of : X → List ℕ} {Fits : X → Type 0} → ((x : X) → Fits x → ⊥) → Reads text_of Fits (λ text. None)
nothing_reads never = record { sound = λ text x e. cc; whole = λ x fits. absurd (never x fits) }

end_sound : (text : List ℕ) (x : Unit {0}) → end_at text ≡ Some x → text ≡ []
unfolding end_at
end_sound [] x e = refl
end_sound (c ∷ cs) x e = let never : ⊥ = grind (arith, nat_tests) in absurd never

end_whole : (x : Unit {0}) → end_at [] ≡ Some x
unfolding end_at
end_whole x = refl

pub end_reads : Reads (λ (x : Unit {0}). []) (λ x. Unit {0}) end_at
end_reads = record { sound = λ text x e. (end_sound text x e, tt); whole = λ x fits. end_whole x }

-- ---- map and guard

pub map_reads : {X Y : Type 0} {text_y : Y → List ℕ} {FitsY : Y → Type 0} {read_y : List ℕ → Option Y} {FitsX : X → Type 0} (make : Y → X) (from : X → Y)
    → Reads text_y FitsY read_y → ((y : Y) → FitsY y → from (make y) ≡ y) → ((x : X) → FitsX x → make (from x) ≡ x) → ((y : Y) → FitsY y → FitsX (make y))
    → ((x : X) → FitsX x → FitsY (from x)) → Reads (λ x. text_y (from x)) FitsX (λ text. option_map make (read_y text))
map_reads {text_y = text_y} {read_y = read_y} {FitsX = FitsX} make from law back there to fits_from = record {
  sound = λ text x e.
      let m = mapped make (read_y text) x e in
      let s = law.sound text m.value m.was in
      (s.0 ∙ ap text_y (sym (back m.value s.1) ∙ ap from m.gives), subst FitsX m.gives (to m.value s.1));
  whole = λ x fits. ap (λ o. option_map make o) (law.whole (from x) (fits_from x fits)) ∙ ap (λ y. Some y) (there x fits);
}

pub guard_passed : {X : Type 0} (test : X → Bool) (o : Option X) (x : X) → guarded test o ≡ Some x → (o ≡ Some x) × (test x ≡ true)
guard_passed test None x e = cc
guard_passed test (Some y) x e =
    elim (test y) as (λ b. test y ≡ b → cond b (Some y) None ≡ Some x → (Some y ≡ Some x) × (test x ≡ true)) [
      | true ↦ λ t q. (q, subst (λ z. test z ≡ true) (some_same q) t)
      | false ↦ λ t q. let never : ⊥ = cc in absurd never
    ] refl e

pub guard_reads : {X : Type 0} {text_of : X → List ℕ} {Fits : X → Type 0} {found : List ℕ → Option X} (test : X → Bool) → Reads text_of Fits found
    → Reads text_of (λ x. Fits x × IsTrue (test x)) (λ text. guarded test (found text))
guard_reads {X} {text_of} {Fits} {found} test law = record {
  sound = λ text x e.
      let g = guard_passed test (found text) x e in
      let s = law.sound text x g.0 in
      (s.0, (s.1, g.1));
  whole = λ x fits. ap (λ o. guarded test o) (law.whole x fits.0) ∙ ap (λ b. cond b (Some x) None) fits.1;
}
