-- How the law of a reader of texts in several spellings is made of the laws of its parts.
use Rattle.std.proofs.Common.{◌≡◌, ℕ, Bool, cond, List, ◌∷◌, ◌++◌, Option, Some, None, option_map, refl, sym, ap, ◌∙◌, subst, ◌⊎◌, inl, inr, IsTrue}
use Rattle.net_types.specs.Reads.{Reads}
use Rattle.net_types.specs.Marks.{Lacks}
use Rattle.net_types.specs.Cutting.{strip_word, split_at_byte, after_word, by_word, field_at, pair_at, choice_at, guarded}
use Rattle.net_types.proofs.ReadsLaws.{passed, mapped, some_same, step, strip_whole, strip_sound, split_whole, split_sound, guard_passed}
use Rattle.row_texts.specs.RowReading.{either}

-- what is read is spelled by the text, and what a text spells is read
pub record Finds {X : Type 0} (Spells : List ℕ → X → Type 0) (found : List ℕ → Option X) : Type 0 where
  pub sound : (text : List ℕ) (x : X) → found text ≡ Some x → Spells text x
  pub whole : (text : List ℕ) (x : X) → Spells text x → found text ≡ Some x

-- a text spells one value at most
pub one_value : {X : Type 0} {Spells : List ℕ → X → Type 0} {found : List ℕ → Option X} (text : List ℕ) (x y : X) → Finds Spells found → Spells text x
    → Spells text y → x ≡ y
one_value text x y law one other = some_same (sym (law.whole text x one) ∙ law.whole text y other)

-- a text that isn't read spells no value
pub no_value : {X : Type 0} {Spells : List ℕ → X → Type 0} {found : List ℕ → Option X} (text : List ℕ) (x : X) → Finds Spells found → found text ≡ None
    → ¬ (Spells text x)
no_value text x law none spells = let both : None ≡ Some x = sym none ∙ law.whole text x spells in cc

-- values of one text each
abbrev pub OneText : {X : Type 0} → (X → List ℕ) → (X → Type 0) → List ℕ → X → Type 0
OneText text_of Fits text x = (text ≡ text_of x) × Fits x

pub one_text : {X : Type 0} {text_of : X → List ℕ} {Fits : X → Type 0} {found : List ℕ → Option X} → Reads text_of Fits found
    → Finds (OneText text_of Fits) found
one_text {found = found} law = record {
  sound = law.sound;
  whole = λ text x spells. ap found spells.0 ∙ law.whole x spells.1;
}

-- the same in other words
pub same_finds : {X : Type 0} {Spells : List ℕ → X → Type 0} {found : List ℕ → Option X} (Other : List ℕ → X → Type 0)
    → ((text : List ℕ) (x : X) → Spells text x → Other text x) → ((text : List ℕ) (x : X) → Other text x → Spells text x) → Finds Spells found
    → Finds Other found
same_finds Other to from law = record {
  sound = λ text x e. to text x (law.sound text x e);
  whole = λ text x other. law.whole text x (from text x other);
}

-- ---- a map and a guard

pub record Made {Y X : Type 0} (make : Y → X) (Spells : List ℕ → Y → Type 0) (text : List ℕ) (x : X) : Type 0 where
  pub value : Y
  pub makes : make value ≡ x
  pub spells : Spells text value

pub map_finds : {Y X : Type 0} {Spells : List ℕ → Y → Type 0} {found : List ℕ → Option Y} (make : Y → X) → Finds Spells found
    → Finds (Made make Spells) (λ text. option_map make (found text))
map_finds {found = found} make law = record {
  sound = λ text x e.
      let m = mapped make (found text) x e in
      record { value = m.value; makes = m.gives; spells = law.sound text m.value m.was };
  whole = λ text x made. ap (option_map make) (law.whole text made.value made.spells) ∙ ap (λ y. Some y) made.makes;
}

abbrev pub Tested : {X : Type 0} → (X → Bool) → (List ℕ → X → Type 0) → List ℕ → X → Type 0
Tested test Spells text x = Spells text x × IsTrue (test x)

pub guard_finds : {X : Type 0} {Spells : List ℕ → X → Type 0} {found : List ℕ → Option X} (test : X → Bool) → Finds Spells found
    → Finds (Tested test Spells) (λ text. guarded test (found text))
guard_finds {found = found} test law = record {
  sound = λ text x e.
      let g = guard_passed test (found text) x e in
      (law.sound text x g.0, g.1);
  whole = λ text x tested. ap (guarded test) (law.whole text x tested.0) ∙ ap (λ b. cond b (Some x) None) tested.1;
}

-- ---- a word in front, and two parts with a separator between them

pub record After {X : Type 0} (word : List ℕ) (Spells : List ℕ → X → Type 0) (text : List ℕ) (x : X) : Type 0 where
  pub words : List ℕ
  pub spelled : text ≡ word ++ words
  pub spells : Spells words x

pub word_finds : {X : Type 0} {Spells : List ℕ → X → Type 0} {found : List ℕ → Option X} (word : List ℕ) → Finds Spells found
    → Finds (After word Spells) (after_word word found)
word_finds {found = found} word law = record {
  sound = λ text x e.
      let p = passed (strip_word word text) found x e in
      record { words = p.value; spelled = strip_sound word text p.value p.was; spells = law.sound p.value x p.gives };
  whole = λ text x after.
      ap (after_word word found) after.spelled
      ∙ step _ found after.words (strip_whole word after.words) ∙ law.whole after.words x after.spells;
}

pub record Parted {X Y : Type 0} (separator : ℕ) (SpellsX : List ℕ → X → Type 0) (SpellsY : List ℕ → Y → Type 0) (text : List ℕ) (p : X × Y) : Type 0 where
  pub front : List ℕ
  pub back : List ℕ
  pub spelled : text ≡ front ++ separator ∷ back
  pub first : SpellsX front p.0
  pub second : SpellsY back p.1

pub pair_finds : {X Y : Type 0} {SpellsX : List ℕ → X → Type 0} {read_x : List ℕ → Option X} {SpellsY : List ℕ → Y → Type 0} {read_y : List ℕ → Option Y}
    (separator : ℕ)
    → Finds SpellsX read_x → Finds SpellsY read_y → ((text : List ℕ) (x : X) → SpellsX text x → Lacks separator text)
    → Finds (Parted separator SpellsX SpellsY) (pair_at separator read_x read_y)
pair_finds {X} {Y} {SpellsX} {read_x} {SpellsY} {read_y} separator law_x law_y free = record {
  sound = λ text p e.
      let field = passed (field_at separator read_x text) _ p e in
      let back = passed (read_y field.value.1) _ p field.gives in
      let parts = passed (split_at_byte separator text) _ field.value field.was in
      let front = passed (read_x parts.value.0) _ field.value parts.gives in
      let one : front.value ≡ p.0 = ap (λ q. q.0) (some_same front.gives) ∙ ap (λ q. q.0) (some_same back.gives) in
      let two : back.value ≡ p.1 = ap (λ q. q.1) (some_same back.gives) in
      let rest : field.value.1 ≡ parts.value.1 = sym (ap (λ q. q.1) (some_same front.gives)) in
      record {
        front = parts.value.0;
        back = parts.value.1;
        spelled = (split_sound separator text parts.value.0 parts.value.1 parts.was).0;
        first = subst (SpellsX parts.value.0) one (law_x.sound parts.value.0 front.value front.was);
        second = subst (λ r. SpellsY r p.1) rest (subst (SpellsY field.value.1) two (law_y.sound field.value.1 back.value back.was));
      };
  whole = λ text p parted.
      ap (pair_at separator read_x read_y) parted.spelled
      ∙ rw (
        split_whole separator parted.front parted.back (free parted.front p.0 parted.first),
        law_x.whole parted.front p.0 parted.first,
        law_y.whole parted.back p.1 parted.second,
      )
      refl;
}

-- ---- a choice

abbrev pub OneOf : {X : Type 0} → (List ℕ → X → Type 0) → (List ℕ → X → Type 0) → List ℕ → X → Type 0
OneOf One Other text x = One text x ⊎ Other text x

-- one reading, or another of texts that the first doesn't take
pub either_finds : {X : Type 0} {One Other : List ℕ → X → Type 0} {read_one read_other : List ℕ → Option X} → Finds One read_one → Finds Other read_other
    → ((text : List ℕ) (x y : X) → One text x → ¬ (Other text y)) → Finds (OneOf One Other) (λ text. either (read_one text) (read_other text))
either_finds {X} {One} {Other} {read_one} {read_other} one other apart = record {
  sound = λ text x e. found text x (read_one text) refl e;
  whole = λ text x spells. reads text x spells;
}
  where
    found : (text : List ℕ) (x : X) (o : Option X) → read_one text ≡ o → either o (read_other text) ≡ Some x → OneOf One Other text x
    found text x (Some y) was e = inl (one.sound text x (was ∙ e))
    found text x None was e = inr (other.sound text x e)

    second : (text : List ℕ) (x : X) → Other text x → (o : Option X) → read_one text ≡ o → either o (read_other text) ≡ Some x
    second text x spells (Some y) was = absurd (apart text y x (one.sound text y was) spells)
    second text x spells None was = other.whole text x spells

    reads : (text : List ℕ) (x : X) → OneOf One Other text x → either (read_one text) (read_other text) ≡ Some x
    reads text x (inl spells) = ap (λ o. either o (read_other text)) (one.whole text x spells)
    reads text x (inr spells) = second text x spells (read_one text) refl

-- by the first word: one reading after it, and another of texts that begin otherwise
pub choice_finds : {X : Type 0} {One Other : List ℕ → X → Type 0} {read_one read_other : List ℕ → Option X} (word : List ℕ) → Finds One read_one
    → Finds Other read_other → ((text : List ℕ) (x : X) → Other text x → strip_word word text ≡ None)
    → Finds (OneOf (After word One) Other) (choice_at word read_one read_other)
choice_finds {X} {One} {Other} {read_one} {read_other} word one other apart = record {
  sound = λ text x e. found text x (strip_word word text) refl e;
  whole = λ text x spells. reads text x spells;
}
  where
    found : (text : List ℕ) (x : X) (o : Option (List ℕ)) → strip_word word text ≡ o → by_word o read_one (read_other text) ≡ Some x
        → OneOf (After word One) Other text x
    found text x (Some rest) was e = inl (record { words = rest; spelled = strip_sound word text rest was; spells = one.sound rest x e })
    found text x None was e = inr (other.sound text x e)

    reads : (text : List ℕ) (x : X) → OneOf (After word One) Other text x → choice_at word read_one read_other text ≡ Some x
    reads text x (inl after) = ap (choice_at word read_one read_other) after.spelled ∙ rw (strip_whole word after.words) (one.whole after.words x after.spells)
    reads text x (inr spells) = rw (apart text x spells) (other.whole text x spells)
