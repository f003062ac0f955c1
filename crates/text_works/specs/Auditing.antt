-- What `audit` writes and answers: the verdict on a transcript; and `audit why`, which says why addresses may be held.
use Rattle.std.specs.Prelude.{ℕ, ◌≡◌, ◌<◌, ◌≤◌, List, ◌++◌, length, codes, decimal, Option, Some}
use Rattle.world.specs.declared.rows.HostRow.{HostRow}
use Rattle.world.specs.RowText.{row_text}
use Rattle.audit_reasons.specs.TranscriptAudit.declared.verdict.Verdict.{Verdict}
use Rattle.audit_reasons.specs.TranscriptAudit.declared.verdict.Verdict.TheVariants.{Yes, No}
use Rattle.audit_reasons.specs.TranscriptAudit.Verdicts.{IsJudged, NamesBad}
use Rattle.audit_reasons.specs.Accounts.{IsExplained}
use Rattle.audit_reasons.specs.Texts.{lines_text}
use Rattle.audit_reasons.specs.RowReasons.declared.line.BasisLine.{BasisLine}
use Rattle.text_works.specs.declared.status.Status.{Status}
use Rattle.text_works.specs.declared.status.Status.TheVariants as status
use Rattle.text_works.specs.Input.{limit}
use Rattle.text_works.specs.Works.{Work, IsWorked}

-- ---- the line that is written

-- a row is written as in a transcript
abbrev pub verdict_text : Verdict → List ℕ
verdict_text (Yes lives turns) = codes "yes " ++ decimal lives ++ codes " " ++ decimal turns ++ codes "\n"
verdict_text (No life turn row) =
    codes "no " ++ decimal life ++ codes " " ++ decimal turn ++ codes " " ++ row_text row ++ codes "\n"

-- the bytes are a transcript, and each address that it shows has its basis
pub record IsYesOf (bytes text : List ℕ) : Type 0 where
  pub lives : ℕ
  pub turns : ℕ
  pub judged : IsJudged bytes (Yes lives turns)
  pub says : text ≡ verdict_text (Yes lives turns)

-- the bytes are a transcript, and this is the first address that it shows without basis
pub record IsNoOf (bytes text : List ℕ) : Type 0 where
  pub life : ℕ
  pub turn : ℕ
  pub row : HostRow
  pub judged : IsJudged bytes (No life turn row)
  pub says : text ≡ verdict_text (No life turn row)

-- each address has its basis, and further lines say which those have that are shown at the ends of lives
pub record IsWhyOf (bytes text : List ℕ) : Type 0 where
  pub lives : ℕ
  pub turns : ℕ
  pub judged : IsJudged bytes (Yes lives turns)
  pub lines : List BasisLine
  pub explained : IsExplained bytes lines
  pub says : text ≡ verdict_text (Yes lives turns) ++ lines_text lines

-- ---- the answer

-- the line is the first bad one
abbrev pub RefusesTranscript : List ℕ → Status → Type 0
RefusesTranscript bytes (status.Transcript line) = NamesBad bytes line
RefusesTranscript bytes other = ⊥

abbrev pub auditing : Work
auditing = record { Gives = IsYesOf; Finds = IsNoOf; Refuses = RefusesTranscript }

-- what audit answers, by the input and by what is written before and after
abbrev pub IsAuditAnswer : Status → (input old new : Option (List ℕ)) → Type 0
IsAuditAnswer answer input old new = IsWorked auditing answer input old new

abbrev pub explaining : Work
explaining = record { Gives = IsWhyOf; Finds = IsNoOf; Refuses = RefusesTranscript }

-- what audit why answers
abbrev pub IsWhyAnswer : Status → (input old new : Option (List ℕ)) → Type 0
IsWhyAnswer answer input old new = IsWorked explaining answer input old new

-- ---- each input has its answer

-- this answer, or memory was wanted
abbrev pub IsUnlessMemory : Status → Status → Type 0
IsUnlessMemory due status.NoMemory = Unit {0}
IsUnlessMemory due answer = answer ≡ due

pub record HasDueAnswer (bytes : List ℕ) (answer : Status) : Type 0 where
  pub yes : (lives turns : ℕ) → IsJudged bytes (Yes lives turns) → length bytes ≤ limit
      → IsUnlessMemory status.Done answer
  pub no : (life turn : ℕ) (row : HostRow) → IsJudged bytes (No life turn row) → length bytes ≤ limit
      → IsUnlessMemory status.Unjustified answer
  pub bad : (line : ℕ) → NamesBad bytes line → length bytes ≤ limit → IsUnlessMemory (status.Transcript line) answer
  pub long : limit < length bytes → IsUnlessMemory status.TooLong answer

-- where the input is told, it has its answer
abbrev pub IsAnsweredDuly : (input : Option (List ℕ)) → Status → Type 0
IsAnsweredDuly input answer = (bytes : List ℕ) → input ≡ Some bytes → HasDueAnswer bytes answer
