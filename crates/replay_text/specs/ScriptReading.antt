-- How the lines of a script are read, one after another, and why one is bad.
use Rattle.std.specs.Prelude.{ℕ, List, bytes_eq, Option, Some, None, option_map, is_some, if◌then◌else◌}
use Rattle.net_types.specs.Cutting.{◌>>=◌}
use Rattle.net_types.specs.TextLines.{Line, Front, Whole, Unended, End}
use Rattle.script_model.specs.ScriptTexts.{ScriptLines}
use Rattle.replay_text.specs.declared.faults.ScriptCause.{ScriptCause}
use Rattle.replay_text.specs.declared.faults.ScriptCause.TheVariants as causes
use Rattle.replay_text.specs.LinesInOrder.{head_line}
use Rattle.replay_text.specs.LinesRead.{LinesRead, script_in, nothing_read}
use Rattle.replay_text.specs.NextLines.{with_line}
use Rattle.replay_text.specs.NextWords.{may_come}
use Rattle.script_lines.specs.Words.{Known, word_at, is_text}

-- ---- the lines one after another; nothing comes before the first one

abbrev pub in_place : LinesRead → Known → Option LinesRead
in_place read known = if may_come read known.0 then with_line read known.0 known.1 else None

unfoldable pub step_after : LinesRead → Line → Option LinesRead
step_after read line = if is_text line then word_at line >>= in_place read else None

abbrev pub step : Option LinesRead → Line → Option (Option LinesRead)
step None line = if bytes_eq line head_line then Some (Some nothing_read) else None
step (Some read) line = option_map Some (step_after read line)

-- ---- why a line is bad

abbrev pub known_cause : LinesRead → Option Known → ScriptCause
known_cause read None = causes.Word
known_cause read (Some known) = if may_come read known.0 then causes.Form else causes.Order

abbrev pub line_cause : Option LinesRead → Line → ScriptCause
line_cause None line = causes.Word
line_cause (Some read) line = known_cause read (word_at line)

abbrev pub end_cause_of : Option LinesRead → ScriptCause
end_cause_of None = causes.Word
end_cause_of (Some read) = causes.Order

abbrev pub cause_of : Option LinesRead → Front → ScriptCause
cause_of state (Whole line) = if is_text line then line_cause state line else causes.NotText
cause_of state (Unended rest) = causes.NotText
cause_of state End = end_cause_of state

-- ---- what was read; a script has a life

-- a script, and its configuration's lines with their line feeds
pub record ScriptRead : Type 0 where
  pub conf : List ℕ
  pub script : ScriptLines

abbrev pub script_read : LinesRead → ScriptRead
script_read read = record { conf = read.conf; script = script_in read }

abbrev pub given_after : LinesRead → Option ScriptRead
given_after read = if is_some read.last then Some (script_read read) else None

abbrev pub given : Option LinesRead → Option ScriptRead
given None = None
given (Some read) = given_after read
