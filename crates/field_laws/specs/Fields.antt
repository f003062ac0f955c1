-- A field of a line: the text of a value, the values that have one, and how a text is read.
use Rattle.std.specs.Prelude.{◌≡◌, ℕ, Bool, List, ◌∷◌, ◌++◌, Option, option_map, IsTrue}
use Rattle.net_types.specs.Cutting.{after_word, guarded, pair_at}
use Rattle.net_types.specs.Marks.{Lacks}
use Rattle.net_types.specs.Reads.{Reads}

pub record Field (X : Type 0) : Type 1 where
  pub text : X → List ℕ
  pub Fits : X → Type 0
  pub at : List ℕ → Option X

-- what is read is spelled so, what is spelled so is read, and it stands within one line
pub record IsField {X : Type 0} (field : Field X) : Type 0 where
  pub reads : Reads field.text field.Fits field.at
  pub no_feed : (x : X) → field.Fits x → Lacks 10 (field.text x)

-- another field may follow after a blank
abbrev pub LacksBlank : {X : Type 0} → Field X → Type 0
LacksBlank {X} field = (x : X) → field.Fits x → Lacks 32 (field.text x)

-- two fields with a blank between them
abbrev pub parted : {X Y : Type 0} → Field X → Field Y → Field (X × Y)
parted first second = record {
  text = λ p. first.text p.0 ++ 32 ∷ second.text p.1;
  Fits = λ p. first.Fits p.0 × second.Fits p.1;
  at = pair_at 32 first.at second.at;
}

-- the fields after a word
abbrev pub worded : {X : Type 0} → List ℕ → Field X → Field X
worded word field = record {
  text = λ x. word ++ field.text x;
  Fits = field.Fits;
  at = after_word word field.at;
}

-- only the values that pass a test
abbrev pub passing : {X : Type 0} → (X → Bool) → Field X → Field X
passing test field = record {
  text = field.text;
  Fits = λ x. field.Fits x × IsTrue (test x);
  at = λ text. guarded test (field.at text);
}

-- the same texts for other values, each made of the one that it is told by
abbrev pub making : {X Y : Type 0} → (X → Y) → (Y → X) → Field X → Field Y
making make told field = record {
  text = λ y. field.text (told y);
  Fits = λ y. field.Fits (told y);
  at = λ text. option_map make (field.at text);
}

-- a value and what tells it give each other
pub record IsMaking {X Y : Type 0} (make : X → Y) (told : Y → X) : Type 0 where
  pub back : (x : X) → told (make x) ≡ x
  pub there : (y : Y) → make (told y) ≡ y
