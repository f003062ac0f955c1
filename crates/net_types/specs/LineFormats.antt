-- What a format of lines owes, so that a reader that takes its lines one by one finds the first bad line.
use Rattle.std.specs.Prelude.{◌≡◌, List, [], ◌∷◌, ◌++◌, Option, Some}
use Rattle.net_types.specs.TextLines.{Line, AreLines, Front}
use Rattle.net_types.specs.LineReading.{run, StopsAt}

-- the lines are taken to this value
pub record WholeRun {S V : Type 0} (step : S → Line → Option S) (given : S → Option V) (start : S) (lines : List Line)
    (value : V) : Type 0 where
  pub state : S
  pub runs : run step lines start ≡ Some state
  pub gives : given state ≡ Some value

-- lines after which these spell a value
pub record Completes {V : Type 0} (Spells : V → List Line → Type 0) (lines : List Line) : Type 0 where
  pub value : V
  pub more : List Line
  pub spells : Spells value (lines ++ more)

-- `After state lines` says what a state tells of the lines before it.
pub record LineLaws {S V C : Type 0} (Spells : V → List Line → Type 0) (Why : List Line → Front → C → Type 0)
    (step : S → Line → Option S) (given : S → Option V) (cause_of : S → Front → C) (After : S → List Line → Type 0)
    (start : S) : Type 0 where
  -- no line is before the start, and each line that is taken is one more
  pub begins : After start []
  pub takes : (state next : S) (lines : List Line) (line : Line) → After state lines → step state line ≡ Some next
      → After next (lines ++ line ∷ [])
  -- each state can be brought to an end, and where one ends, its lines spell its value
  pub completes : (state : S) (lines : List Line) → After state lines → Completes Spells lines
  pub ends : (state : S) (lines : List Line) (value : V) → After state lines → given state ≡ Some value
      → Spells value lines
  -- all lines that spell a value are taken to it
  pub whole : (value : V) (lines : List Line) → Spells value lines → WholeRun step given start lines value
  pub are : (value : V) (lines : List Line) → Spells value lines → AreLines lines
  -- the cause that a state tells is that of the text
  pub tells : (state : S) (lines : List Line) (front : Front) → After state lines → StopsAt step given state front
      → Why lines front (cause_of state front)
