-- Lines taken one by one: what the loop over a text says of itself.
use Rattle.std.specs.Prelude.{◌≡◌, ℕ, ◌+◌, List, [], ◌∷◌, ◌++◌, length, Option, Some, None, option_and_then}
use Rattle.net_types.specs.declared.text_lines.LineFault.{LineFault}
use Rattle.net_types.specs.declared.text_lines.LineFault.TheVariants as faults
use Rattle.net_types.specs.declared.text_lines.TextFault.{TextFault}
use Rattle.net_types.specs.declared.text_lines.TextFault.TheVariants.{Bad, NoMemory}
use Rattle.net_types.specs.TextLines.{Line, lines_text, AreLines, Front, Whole, Unended, End, front_in}

-- the state after these lines
abbrev pub run : {S : Type 0} → (S → Line → Option S) → List Line → S → Option S
run step [] state = Some state
run step (line ∷ lines) state = option_and_then (run step lines) (step state line)

-- lines up to the rest were taken, and the next one has this number
pub record Took {S : Type 0} (step : S → Line → Option S) (start : S) (text rest : List ℕ) (number : ℕ)
    (state : S) : Type 0 where
  pub lines : List Line
  pub are : AreLines lines
  pub cut : text ≡ lines_text lines ++ rest
  pub counted : number ≡ length lines + 1
  pub runs : run step lines start ≡ Some state

-- all lines were taken, and the last state gives the value
pub record Gives {S V : Type 0} (step : S → Line → Option S) (given : S → Option V) (start : S) (text : List ℕ)
    (value : V) : Type 0 where
  pub number : ℕ
  pub state : S
  pub took : Took step start text [] number state
  pub gives : given state ≡ Some value

-- a state can't go on with what comes next
abbrev pub StopsAt : {S V : Type 0} → (S → Line → Option S) → (S → Option V) → S → Front → Type 0
StopsAt step given state (Whole line) = step state line ≡ None
StopsAt step given state (Unended rest) = Unit {0}
StopsAt step given state End = given state ≡ None

-- the state after the lines before line `number` can't go on, for this cause
pub record Stopped {S V C : Type 0} (step : S → Line → Option S) (given : S → Option V) (cause_of : S → Front → C)
    (start : S) (text : List ℕ) (number : ℕ) (why : C) : Type 0 where
  pub rest : List ℕ
  pub state : S
  pub took : Took step start text rest number state
  pub stops : StopsAt step given state (front_in rest)
  pub cause : why ≡ cause_of state (front_in rest)

-- what one step says: a fault with its cause where there is no next state, or memory ran out
abbrev pub Refuses : {S C : Type 0} → Option S → C → LineFault C → Type 0
Refuses next why (faults.Bad cause) = (next ≡ None) × (cause ≡ why)
Refuses next why faults.NoMemory = Unit {0}

abbrev pub Stops : {S V C : Type 0} → (S → Line → Option S) → (S → Option V) → (S → Front → C) → S → List ℕ
    → TextFault C → Type 0
Stops step given cause_of start text (Bad number cause) = Stopped step given cause_of start text number cause
Stops step given cause_of start text NoMemory = Unit {0}
