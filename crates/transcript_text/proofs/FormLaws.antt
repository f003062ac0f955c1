-- The laws of the forms of fields that lines of a transcript have of their own.
use Rattle.std.proofs.Common.{◌≡◌, ℕ, Bool, true, false, cond, not, eqb, List, [], ◌∷◌, ◌++◌, reverse, refl, sym, ◌∙◌, ap, subst, append_assoc, append-nil, flat_map, Option, Some, None}
use Rattle.std.specs.Prelude.{bytes_eq, find, map, option_map}
use Rattle.std.specs.List.{join_with_byte, list_all}
use Rattle.std.proofs.lemmas.Bool.{and_parts}
use Rattle.std.proofs.lemmas.List.{reverse-append, reverse-reverse}
use Rattle.std.proofs.lemmas.List.Folds.{list_all-append}
use Rattle.std.proofs.lemmas.Slice.Eq.{bytes_eq-Decides}
use Rattle.net_types.specs.Cutting.{guarded, split_at_byte}
use Rattle.net_types.specs.Marks.{Lacks}
use Rattle.net_types.specs.Reads.{Reads}
use Rattle.net_types.proofs.ReadsLaws.{guard_passed, guard_reads, mapped, passed, same_range, some_same, split_sound, split_whole, step}
use Rattle.line_grammar.specs.FieldLaws.Fields.{Field}
use Rattle.transcript_text.specs.FieldForms.{bytes_that, one_of, printed, split_at_last, told}
use Rattle.transcript_text.specs.LineFields.{called, outcome_field}

-- ---- bytes as they are

pub text_reads : Reads (λ (bytes : List ℕ). bytes) (λ bytes. Unit {0}) (λ text. Some text)
text_reads = record { sound = λ text bytes e. (some_same e, tt); whole = λ bytes fits. refl }

pub bytes_reads : (test : List ℕ → Bool) → Reads (bytes_that test).text (bytes_that test).Fits (bytes_that test).at
bytes_reads test = same_range (bytes_that test).Fits (λ bytes fits. (tt, fits)) (λ bytes fits. fits.1) (guard_reads test text_reads)

-- ---- a word for each value

same_bytes : (text : List ℕ) → bytes_eq text text ≡ true
same_bytes text = (bytes_eq-Decides text text).1 refl

-- what is found passes its test, and any other that all pass
pub found_passes : {X : Type 0} (test other : X → Bool) (all : List X) (x : X) → find test all ≡ Some x → list_all other all ≡ true
    → (test x ≡ true) × (other x ≡ true)
found_passes test other [] x e passes = cc
found_passes test other (y ∷ all) x e passes =
    let parts = and_parts (other y) (list_all other all) passes in
    elim (test y) as (λ b. test y ≡ b → cond b (Some y) (find test all) ≡ Some x → (test x ≡ true) × (other x ≡ true)) [
      | true ↦ λ t q. subst (λ z. (test z ≡ true) × (other z ≡ true)) (some_same q) (t, parts.0)
      | false ↦ λ t q. found_passes test other all x q parts.1
    ] refl e

every : {X : Type 0} (all : List X) → list_all (λ x. true) all ≡ true
every [] = refl
every (x ∷ all) = every all

pub one_reads : {X : Type 0} (word_of : X → List ℕ) (all : List X) → ((x : X) → (one_of word_of all).at (word_of x) ≡ Some x)
    → Reads word_of (λ x. Unit {0}) (one_of word_of all).at
one_reads word_of all whole = record {
  sound = λ text x e.
      let passes = found_passes (λ x. bytes_eq text (word_of x)) (λ x. true) all x e (every all) in
      ((bytes_eq-Decides text (word_of x)).0 passes.0, tt);
  whole = λ x fits. whole x;
}

-- no word has a byte that the words of the list lack
pub one_lacks : {X : Type 0} (byte : ℕ) (word_of : X → List ℕ) (all : List X) → ((x : X) → (one_of word_of all).at (word_of x) ≡ Some x)
    → list_all (λ x. list_all (λ b. not (eqb b byte)) (word_of x)) all ≡ true → (x : X) → Lacks byte (word_of x)
one_lacks byte word_of all whole lack x =
    (found_passes (λ y. bytes_eq (word_of x) (word_of y)) (λ y. list_all (λ b. not (eqb b byte)) (word_of y)) all x (whole x) lack).1

-- ---- a word in place of another text

-- every text that is read is spelled so
abbrev pub Sound : {X : Type 0} → (X → List ℕ) → (X → Type 0) → (List ℕ → Option X) → Type 0
Sound {X} text_of Fits read = (text : List ℕ) (x : X) → read text ≡ Some x → (text ≡ text_of x) × Fits x

pub told_sound : {X : Type 0} {text_of : X → List ℕ} {Fits : X → Type 0} {other : List ℕ → Option X} (word : List ℕ) (x : X)
    → word ≡ text_of x → Fits x → Sound text_of Fits other → Sound text_of Fits (told word x other)
told_sound {text_of = text_of} {Fits = Fits} {other = other} word x spelled fits others text y e =
    elim (bytes_eq text word) as (λ b. bytes_eq text word ≡ b → cond b (Some x) (other text) ≡ Some y → (text ≡ text_of y) × Fits y) [
      | true ↦ λ t q.
          subst (λ z. (text ≡ text_of z) × Fits z) (some_same q) ((bytes_eq-Decides text word).0 t ∙ spelled, fits)
      | false ↦ λ t q. others text y q
    ] refl e

pub told_other : {X : Type 0} (other : List ℕ → Option X) (word : List ℕ) (x : X) (text : List ℕ) (y : X) → other word ≡ None
    → other text ≡ Some y → told word x other text ≡ Some y
told_other other word x text y none some =
    elim (bytes_eq text word) as (λ b. bytes_eq text word ≡ b → cond b (Some x) (other text) ≡ Some y) [
      | true ↦ λ t. let never : None ≡ Some y = sym none ∙ ap other (sym ((bytes_eq-Decides text word).0 t)) ∙ some in cc
      | false ↦ λ t. some
    ] refl

-- what is made of a value that is read
pub made_sound : {A X : Type 0} {text_a : A → List ℕ} {FitsA : A → Type 0} {read_a : List ℕ → Option A}
    (text_of : X → List ℕ) (Fits : X → Type 0) (make : A → X)
    → Reads text_a FitsA read_a → ((a : A) → text_of (make a) ≡ text_a a) → ((a : A) → FitsA a → Fits (make a))
    → Sound text_of Fits (λ text. option_map make (read_a text))
made_sound {read_a = read_a} text_of Fits make law same fits text x e =
    let m = mapped make (read_a text) x e in
    let s = law.sound text m.value m.was in
    (s.0 ∙ sym (same m.value) ∙ ap text_of m.gives, subst Fits m.gives (fits m.value s.1))

-- ---- the printed text alone

pub printed_reads : {X : Type 0} (text_of : X → List ℕ) (Fits : X → Type 0) (read : List ℕ → Option X) → ((text : List ℕ) (x : X) → read text ≡ Some x → Fits x)
    → ((x : X) → Fits x → read (text_of x) ≡ Some x) → Reads text_of Fits (printed text_of read)
printed_reads text_of Fits read fits whole = record {
  sound = λ text x e.
      let g = guard_passed (λ y. bytes_eq text (text_of y)) (read text) x e in
      ((bytes_eq-Decides text (text_of x)).0 g.1, fits text x g.0);
  whole = λ x has.
      ap (guarded (λ y. bytes_eq (text_of x) (text_of y))) (whole x has) ∙ ap (λ b. cond b (Some x) None) (same_bytes (text_of x));
}

-- ---- lists

-- parts that are joined are the first one, and each other one after a separator
pub joined : {X : Type 0} (separator : ℕ) (text_of : X → List ℕ) (x : X) (xs : List X)
    → join_with_byte separator (map text_of (x ∷ xs)) ≡ text_of x ++ flat_map (λ y. separator ∷ text_of y) xs
joined separator text_of x [] = sym (append-nil (text_of x))
joined separator text_of x (y ∷ xs) = ap (λ text. text_of x ++ separator ∷ text) (joined separator text_of y xs)

-- ---- the last separator

reversed_lacks : (byte : ℕ) (text : List ℕ) → Lacks byte text → Lacks byte (reverse text)
reversed_lacks byte [] free = refl
reversed_lacks byte (b ∷ text) free =
    let parts : (not (eqb b byte) ≡ true) × Lacks byte text = and_parts _ _ free in
    let split : reverse (b ∷ text) ≡ reverse text ++ b ∷ [] = reverse-append (b ∷ []) text in
    rw split (list_all-append (λ c. not (eqb c byte)) (reverse text) (b ∷ []) ∙ (rw (reversed_lacks byte text parts.1, parts.0) refl))

around : (separator : ℕ) (front back : List ℕ) → reverse (front ++ separator ∷ back) ≡ reverse back ++ separator ∷ reverse front
around separator front back =
    reverse-append front (separator ∷ back) ∙ ap (λ text. text ++ reverse front) (reverse-append (separator ∷ []) back)
    ∙ append_assoc (reverse back) (separator ∷ []) (reverse front)

pub last_whole : (separator : ℕ) (front back : List ℕ) → Lacks separator back → split_at_last separator (front ++ separator ∷ back) ≡ Some (front, back)
unfolding split_at_last
last_whole separator front back free =
    rw (around separator front back, split_whole separator (reverse back) (reverse front) (reversed_lacks separator back free))
    (rw (reverse-reverse front, reverse-reverse back) refl)

pub last_sound : (separator : ℕ) (text front back : List ℕ) → split_at_last separator text ≡ Some (front, back) → text ≡ front ++ separator ∷ back
unfolding split_at_last
last_sound separator text front back e =
    let m = mapped (λ (p : List ℕ × List ℕ). (reverse p.1, reverse p.0)) (split_at_byte separator (reverse text)) (front, back) e in
    let cut = split_sound separator (reverse text) m.value.0 m.value.1 m.was in
    let one : reverse m.value.1 ≡ front = ap (λ p. p.0) m.gives in
    let two : reverse m.value.0 ≡ back = ap (λ p. p.1) m.gives in
    sym (reverse-reverse text) ∙ ap reverse cut.0 ∙ around separator m.value.0 m.value.1 ∙ ap (λ r. r ++ separator ∷ reverse m.value.0) one
    ∙ ap (λ r. front ++ separator ∷ r) two

-- ---- whether what it was about was done

done_whole : (done : Bool) → outcome_field.at (outcome_field.text done) ≡ Some done
done_whole true = refl
done_whole false = refl

pub outcome_reads : Reads outcome_field.text outcome_field.Fits outcome_field.at
outcome_reads = one_reads outcome_field.text (true ∷ false ∷ []) done_whole

pub outcome_lacks : (done : Bool) → Lacks 32 (outcome_field.text done)
outcome_lacks = one_lacks 32 outcome_field.text (true ∷ false ∷ []) done_whole refl

pub called_reads : {X : Type 0} (about : Field X) → Reads about.text about.Fits about.at → Reads (called about).text (called about).Fits (called about).at
called_reads about law = record {
  sound = λ text p e.
      let cut = passed (split_at_last 32 text) _ p e in
      let first = passed (about.at cut.value.0) _ p cut.gives in
      let second = passed (outcome_field.at cut.value.1) _ p first.gives in
      let one : first.value ≡ p.0 = ap (λ q. q.0) (some_same second.gives) in
      let two : second.value ≡ p.1 = ap (λ q. q.1) (some_same second.gives) in
      let s = law.sound cut.value.0 first.value first.was in
      let d = outcome_reads.sound cut.value.1 second.value second.was in (
        last_sound 32 text cut.value.0 cut.value.1 cut.was ∙ ap (λ t. t ++ 32 ∷ cut.value.1) (s.0 ∙ ap about.text one)
            ∙ ap (λ t. about.text p.0 ++ 32 ∷ t) (d.0 ∙ ap outcome_field.text two),
        subst about.Fits one s.1,
      );
  whole = λ p fits.
      step _ _ (about.text p.0, outcome_field.text p.1) (last_whole 32 (about.text p.0) (outcome_field.text p.1) (outcome_lacks p.1))
      ∙ step _ _ p.0 (law.whole p.0 fits) ∙ step _ _ p.1 (outcome_reads.whole p.1 tt);
}
