-- That the transcript of a script shows no address without its basis.
use Rattle.std.specs.Prelude.{◌≡◌, ℕ, ◌<◌, ◌^◌, List, ◌++◌, length, Option, Some}
use Rattle.std.specs.List.{AllByRecursion}
use Rattle.conf_text.specs.Configurations.{Configuration}
use Rattle.script_model.specs.Lines.{lines_text}
use Rattle.script_model.specs.ScriptTexts.{ScriptLines}
use Rattle.transcript_model.specs.Told.{body_lines, head_lines}
use Rattle.audit_model.specs.Verdicts.{BasisWord, IsYes, Justified, turns_told}
use Rattle.told_lives.specs.Laws.{IsTypedLife}
use Rattle.replayed_lives.specs.TextWorks.SpelledScripts.{IsScript}
use Rattle.replayed_lives.specs.Replays.{transcript}
use Rattle.replayed_lives.specs.Replaying.{IsReplayed}
use Rattle.replay_audit.specs.ScriptsTold.{body_of, told_of}

-- the lines of the transcript are those of what it tells
abbrev pub LinesAreTold : Type 0
LinesAreTold = (script : ScriptLines) (conf : Configuration)
    → transcript script conf ≡ head_lines script.conf conf ++ body_lines (body_of script conf)

-- all that it shows is justified
abbrev pub LivesAreJustified : BasisWord → Type 0
LivesAreJustified Rests = (bytes : List ℕ) (script : ScriptLines) (conf : Configuration) → IsScript bytes script conf
    → Justified Rests (told_of script conf)

-- ---- as a text

abbrev pub transcript_text : ScriptLines → Configuration → List ℕ
transcript_text script conf = lines_text (transcript script conf)

-- each line of its lives is within the types that hold it
abbrev pub LivesAreTyped : ScriptLines → Configuration → Type 0
LivesAreTyped script conf = AllByRecursion IsTypedLife (body_of script conf).lives

-- Yes is to be said to it, with the number of its lives and of all turns that they handled. What its lines count are
-- numbers of 64 bits, and its own length alone bounds them.
abbrev pub TranscriptsAreJustified : BasisWord → Type 0
TranscriptsAreJustified Rests =
    (bytes : List ℕ) (script : ScriptLines) (conf : Configuration) → IsScript bytes script conf
    → LivesAreTyped script conf → length (transcript_text script conf) < 2 ^ 64
    → IsYes Rests (transcript_text script conf) (length script.lives) (turns_told (told_of script conf))

-- a text was written behind what stood there, and yes is to be said to it
pub record WritesYes (Rests : BasisWord) (script : ScriptLines) (conf : Configuration) (before : List ℕ)
    (after : Option (List ℕ)) : Type 0 where
  pub text : List ℕ
  pub written : after ≡ Some (before ++ text)
  pub yes : length text < 2 ^ 64 → IsYes Rests text (length script.lives) (turns_told (told_of script conf))

-- So it is of what `replay` writes where it is done, whatever script it was given: its lines are within their types.
abbrev pub ReplaysAreJustified : BasisWord → Type 0
ReplaysAreJustified Rests = (input : Option (List ℕ)) (before : List ℕ) (after : Option (List ℕ))
    (replayed : IsReplayed input (Some before) after) → WritesYes Rests replayed.script replayed.conf before after
