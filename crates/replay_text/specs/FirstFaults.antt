-- The first bad line of a text that is no script, and why it is bad.
use Rattle.std.specs.Prelude.{ℕ, ◌≡◌, true, false, List, [], ◌∷◌, Option, Some, None}
use Rattle.net_types.specs.TextLines.{Line, Front, Whole, Unended, End}
use Rattle.net_types.specs.FirstBadLine.{FirstBad}
use Rattle.replay_text.specs.declared.faults.ScriptCause.{ScriptCause}
use Rattle.replay_text.specs.declared.faults.ScriptCause.TheVariants as causes
use Rattle.replay_text.specs.declared.faults.ScriptFault.{ScriptFault}
use Rattle.replay_text.specs.declared.faults.ScriptAnswer.{ScriptAnswer}
use Rattle.replay_text.specs.declared.faults.ScriptAnswer.TheVariants as answers
use Rattle.replay_text.specs.LinesInOrder.{SpellsScript}
use Rattle.replay_text.specs.Places.{IsInPlace}
use Rattle.script_lines.specs.Words.{Known, word_at, is_text}

-- the first word of the line after these, where lines begin with it; as the first line one line stands alone
abbrev pub known_after : List Line → Line → Option Known
known_after [] line = None
known_after (first ∷ lines) line = word_at line

-- ---- causes

-- no line of that word may stand there
pub record IsOutOfPlace (lines : List Line) (line : Line) : Type 0 where
  pub known : Known
  pub text : is_text line ≡ true
  pub begins : known_after lines line ≡ Some known
  pub place : IsInPlace lines known.0 → ⊥

-- a line of that word may stand there: it is what follows the word that no script has
pub record IsOutOfForm (lines : List Line) (line : Line) : Type 0 where
  pub known : Known
  pub text : is_text line ≡ true
  pub begins : known_after lines line ≡ Some known
  pub place : IsInPlace lines known.0

-- why no script goes on after the lines with this one, the causes in their order
abbrev pub IsBadFor : List Line → Line → ScriptCause → Type 0
IsBadFor lines line causes.NotText = is_text line ≡ false
IsBadFor lines line causes.Word = (is_text line ≡ true) × (known_after lines line ≡ None)
IsBadFor lines line causes.Order = IsOutOfPlace lines line
IsBadFor lines line causes.Form = IsOutOfForm lines line

-- a text without lines has no first word, and one that ends after some lines lacks its lives
abbrev pub end_cause : List Line → ScriptCause
end_cause [] = causes.Word
end_cause (line ∷ lines) = causes.Order

-- why no script goes on after the lines with what comes next
abbrev pub Why : List Line → Front → ScriptCause → Type 0
Why lines (Whole line) cause = IsBadFor lines line cause
Why lines (Unended rest) cause = cause ≡ causes.NotText
Why lines End cause = cause ≡ end_cause lines

-- the line of the fault is the first bad one, for its cause
abbrev pub IsFault : List ℕ → ScriptFault → Type 0
IsFault text fault = FirstBad SpellsScript Why text fault.line fault.cause

abbrev pub NamesFault : List ℕ → ScriptAnswer → Type 0
NamesFault text (answers.Bad fault) = IsFault text fault
NamesFault text answers.NoMemory = Unit {0}

-- A text has one fault.
abbrev pub FaultsAreOne : Type 0
FaultsAreOne = (text : List ℕ) (one other : ScriptFault) → IsFault text one → IsFault text other → one ≡ other
