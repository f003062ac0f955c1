-- A shape of text: a word, the fields after it, and the value that they make.
use Rattle.std.specs.Prelude.{ℕ, List, Option, option_map}
use Rattle.line_grammar.specs.FieldLaws.Fields.{Field}

pub record Shape (V X : Type 0) : Type 1 where
  pub word : List ℕ
  pub fields : Field X
  pub make : X → V

-- what is read after the word
abbrev pub choice_of : {V X : Type 0} → Shape V X → List ℕ × (List ℕ → Option V)
choice_of shape = (shape.word, λ rest. option_map shape.make (shape.fields.at rest))
