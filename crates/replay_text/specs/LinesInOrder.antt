-- The lines of a script, in their order.
use Rattle.std.specs.Prelude.{ℕ, ◌≡◌, List, [], ◌∷◌, ◌++◌, map, flat_map, codes, Option, Some, None}
use Rattle.net_types.specs.TextLines.{Line}
use Rattle.script_model.specs.Crashes.{CrashScript, crash_text}
use Rattle.script_model.specs.FailingCalls.{fail_text}
use Rattle.script_model.specs.FirstFiles.{file_text}
use Rattle.script_model.specs.HookAnswers.{hook_text}
use Rattle.script_model.specs.Lines.{interface_text, start_text}
use Rattle.script_model.specs.RowSpellings.{SpellsRow}
use Rattle.script_model.specs.Scripts.{FitsScript}
use Rattle.script_model.specs.ScriptTexts.{ScriptLines, LifeScript}
use Rattle.script_model.specs.Spellings.{AreSpelled}
use Rattle.script_model.specs.TurnSpellings.{SpellsGiven}

abbrev pub head_line : Line
head_line = codes "dhcpcd-script 1"

abbrev pub conf_line : List ℕ → Line
conf_line text = codes "c:" ++ text

-- the line of a row with this text
abbrev pub row_line : List ℕ → Line
row_line text = codes "row " ++ text

abbrev pub crash_lines : Option CrashScript → List Line
crash_lines None = []
crash_lines (Some crash) = crash_text crash ∷ []

-- These lines are a text of the life: a turn may have any of its texts, all else has one.
pub record SpellsLife (lines : List Line) (life : LifeScript) : Type 0 where
  pub turns : List Line
  pub spelled : AreSpelled SpellsGiven turns life.turns
  pub are : lines ≡ start_text life.begin ∷ (turns ++ crash_lines life.crash)

-- the lines of lives, one life after another
abbrev pub lives_lines : List (List Line) → List Line
lives_lines lives = flat_map (λ lines. lines) lives

-- the lines of a script whose rows have these texts, and whose lives these lines
abbrev pub script_lines : List (List ℕ) → List (List Line) → ScriptLines → List Line
script_lines rows lives script =
    head_line
    ∷ (map conf_line script.conf
    ++ (map interface_text script.ifaces
    ++ (map row_line rows
    ++ (map file_text script.files
    ++ (map fail_text script.fails
    ++ (map hook_text script.polls
    ++ lives_lines lives))))))

-- These lines are a text of the script: rows and turns may have any of their texts, all else has one.
pub record SpellsScript (script : ScriptLines) (lines : List Line) : Type 0 where
  pub rows : List (List ℕ)
  pub spelled : AreSpelled SpellsRow rows script.rows
  pub lives : List (List Line)
  pub lived : AreSpelled SpellsLife lives script.lives
  pub are : lines ≡ script_lines rows lives script
  pub fits : FitsScript script
