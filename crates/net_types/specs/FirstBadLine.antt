-- The first bad line of a text, said of texts alone. A format is a relation: which lines spell which value.
use Rattle.std.specs.Prelude.{◌≡◌, ◌≢◌, ℕ, ◌+◌, List, ◌++◌, length}
use Rattle.net_types.specs.declared.text_lines.TextFault.{TextFault}
use Rattle.net_types.specs.declared.text_lines.TextFault.TheVariants.{Bad, NoMemory}
use Rattle.net_types.specs.TextLines.{Line, ended, lines_text, AreLines, Front, Whole, Unended, End, front_in}

-- a format that prints its values
abbrev pub Printed : {V : Type 0} → (V → List Line) → (V → Type 0) → V → List Line → Type 0
Printed lines_of Fits value lines = (lines ≡ lines_of value) × Fits value

-- the text is the lines that spell a value
pub record IsSpelled {V : Type 0} (Spells : V → List Line → Type 0) (text : List ℕ) (value : V) : Type 0 where
  pub lines : List Line
  pub spells : Spells value lines
  pub text_is : text ≡ lines_text lines

-- some good text begins so
pub record Begins {V : Type 0} (Spells : V → List Line → Type 0) (front : List ℕ) : Type 0 where
  pub value : V
  pub lines : List Line
  pub spells : Spells value lines
  pub more : List ℕ
  pub goes_on : lines_text lines ≡ front ++ more

-- no good text begins so
abbrev pub NoneBegins : {V : Type 0} → (V → List Line → Type 0) → List ℕ → Type 0
NoneBegins {V} Spells front =
    (value : V) (lines : List Line) → Spells value lines → (more : List ℕ) → lines_text lines ≢ front ++ more

-- the text is no good one
abbrev pub NoneIs : {V : Type 0} → (V → List Line → Type 0) → List ℕ → Type 0
NoneIs {V} Spells text = (value : V) (lines : List Line) → Spells value lines → text ≢ lines_text lines

-- no good text goes on after these lines with the line that comes next; where none does, the text is no good one
abbrev pub Breaks : {V : Type 0} → (V → List Line → Type 0) → List ℕ → List Line → Front → Type 0
Breaks Spells text lines (Whole line) = NoneBegins Spells (lines_text lines ++ ended line)
Breaks Spells text lines (Unended rest) = NoneIs Spells text
Breaks Spells text lines End = NoneIs Spells text

-- Line `number` is the first bad one: some good text begins with the lines before it, and none goes on with what comes
-- next. `Why` says which cause that has.
pub record FirstBad {V C : Type 0} (Spells : V → List Line → Type 0) (Why : List Line → Front → C → Type 0)
    (text : List ℕ) (number : ℕ) (cause : C) : Type 0 where
  pub lines : List Line
  pub rest : List ℕ
  pub are : AreLines lines
  pub cut : text ≡ lines_text lines ++ rest
  pub counted : number ≡ length lines + 1
  pub before : Begins Spells (lines_text lines)
  pub breaks : Breaks Spells text lines (front_in rest)
  pub why : Why lines (front_in rest) cause

-- why a text gives no value: its first bad line, or memory ran out
abbrev pub FirstFault : {V C : Type 0} → (V → List Line → Type 0) → (List Line → Front → C → Type 0) → List ℕ
    → TextFault C → Type 0
FirstFault Spells Why text (Bad number cause) = FirstBad Spells Why text number cause
FirstFault Spells Why text NoMemory = Unit {0}
