-- What `audit` makes of an input, and `audit why`: one thing, and over streams that don't fail what is due.
use Rattle.std.proofs.Common.{ℕ, ◌≡◌, ◌<◌, ◌≤◌, Bool, true, false, List, [], ◌++◌, length, Option, Some, refl, sym, subst, ap, ◌∙◌, append-nil, arith}
use Rattle.world.specs.declared.rows.HostRow.{HostRow}
use Rattle.audit_reasons.specs.TranscriptAudit.declared.verdict.Verdict.{Verdict}
use Rattle.audit_reasons.specs.TranscriptAudit.declared.verdict.Verdict.TheVariants.{Yes, No}
use Rattle.audit_reasons.specs.TranscriptAudit.Laws.{AVerdictIsOne}
use Rattle.audit_reasons.specs.TranscriptAudit.Verdicts.{IsJudged, NamesBad}
use Rattle.audit_reasons.specs.Accounts.{IsExplained}
use Rattle.audit_reasons.specs.Texts.{lines_text}
use Rattle.audit_reasons.specs.RowReasons.declared.line.BasisLine.{BasisLine}
use Rattle.text_works.specs.declared.status.Status.{Status}
use Rattle.text_works.specs.declared.status.Status.TheVariants as status
use Rattle.text_works.specs.Auditing.{HasDueAnswer, IsAnsweredDuly, IsAuditAnswer, IsNoOf, IsWhyAnswer, IsWhyOf, IsYesOf, RefusesTranscript, auditing, explaining, verdict_text}
use Rattle.text_works.specs.Input.{limit, IsTooLong}
use Rattle.text_works.specs.Statuses.{HasStatusCause}
use Rattle.text_works.specs.Works.{IsDecided, IsWorked, Tells, Work}
use Rattle.text_works.proofs.Endings.{read_is}

-- ---- the text

pub says_yes : (bytes text : List ℕ) (lives turns : ℕ) → IsJudged bytes (Yes lives turns) → text ≡ verdict_text (Yes lives turns)
    → Tells auditing true bytes text
says_yes bytes text lives turns judged says = record { lives = lives; turns = turns; judged = judged; says = says }

pub says_no : (bytes text : List ℕ) (life turn : ℕ) (row : HostRow) → IsJudged bytes (No life turn row) → text ≡ verdict_text (No life turn row)
    → Tells auditing false bytes text
says_no bytes text life turn row judged says = record { life = life; turn = turn; row = row; judged = judged; says = says }

pub says_why : (bytes text : List ℕ) (lives turns : ℕ) (lines : List BasisLine) → IsJudged bytes (Yes lives turns) → IsExplained bytes lines
    → text ≡ verdict_text (Yes lives turns) ++ lines_text lines → Tells explaining true bytes text
says_why bytes text lives turns lines judged explained says =
    record { lives = lives; turns = turns; judged = judged; lines = lines; explained = explained; says = says }

-- after a no nothing more is said
pub says_no_more : (bytes text : List ℕ) (life turn : ℕ) (row : HostRow) (lines : List BasisLine) → IsJudged bytes (No life turn row) → lines ≡ []
    → text ≡ verdict_text (No life turn row) ++ lines_text lines → Tells explaining false bytes text
says_no_more bytes text life turn row lines judged none says = record {
  life = life;
  turn = turn;
  row = row;
  judged = judged;
  says = says ∙ ap (λ (l : List BasisLine). verdict_text (No life turn row) ++ lines_text l) none ∙ append-nil (verdict_text (No life turn row));
}

-- ---- no two things

yes_no : {lives turns life turn : ℕ} {row : HostRow} → Yes lives turns ≡ No life turn row → ⊥
yes_no e = cc

record Judged (bytes : List ℕ) : Type 0 where
  verdict : Verdict
  is : IsJudged bytes verdict

judged_so : (bytes text : List ℕ) (good : Bool) → Tells auditing good bytes text → Judged bytes
judged_so bytes text true tells = record { verdict = Yes tells.lives tells.turns; is = tells.judged }
judged_so bytes text false tells = record { verdict = No tells.life tells.turn tells.row; is = tells.judged }

never_refused : AVerdictIsOne → (bytes : List ℕ) → Judged bytes → (answer : Status) → RefusesTranscript bytes answer → ⊥
never_refused one bytes judged (status.Transcript line) refuses = one.none_bad bytes judged.verdict line judged.is refuses
never_refused one bytes judged status.Unjustified refuses = absurd refuses
never_refused one bytes judged (status.Schedule line) refuses = absurd refuses
never_refused one bytes judged (status.Lease line) refuses = absurd refuses
never_refused one bytes judged (status.Capture what) refuses = absurd refuses
never_refused one bytes judged (status.Conf fault) refuses = absurd refuses
never_refused one bytes judged (status.Script fault) refuses = absurd refuses
never_refused one bytes judged status.Done refuses = absurd refuses
never_refused one bytes judged status.Usage refuses = absurd refuses
never_refused one bytes judged status.ReadFault refuses = absurd refuses
never_refused one bytes judged status.WriteFault refuses = absurd refuses
never_refused one bytes judged status.LinkFault refuses = absurd refuses
never_refused one bytes judged status.TurnsOver refuses = absurd refuses
never_refused one bytes judged status.TooLong refuses = absurd refuses
never_refused one bytes judged status.NoMemory refuses = absurd refuses

pub auditing_is_decided : AVerdictIsOne → IsDecided auditing
auditing_is_decided one = record {
  taken = λ bytes text answer tells refuses. never_refused one bytes (judged_so bytes text tells.0 tells.1) answer refuses;
  apart = λ bytes text found gives finds.
      yes_no (one.one bytes (Yes gives.lives gives.turns) (No finds.life finds.turn finds.row) gives.judged finds.judged);
}

explained_so : (bytes text : List ℕ) (good : Bool) → Tells explaining good bytes text → Judged bytes
explained_so bytes text true tells = record { verdict = Yes tells.lives tells.turns; is = tells.judged }
explained_so bytes text false tells = record { verdict = No tells.life tells.turn tells.row; is = tells.judged }

pub explaining_is_decided : AVerdictIsOne → IsDecided explaining
explaining_is_decided one = record {
  taken = λ bytes text answer tells refuses. never_refused one bytes (explained_so bytes text tells.0 tells.1) answer refuses;
  apart = λ bytes text found gives finds.
      yes_no (one.one bytes (Yes gives.lives gives.turns) (No finds.life finds.turn finds.row) gives.judged finds.judged);
}

-- ---- what is due

too_short : {A : Type 0} (bytes : List ℕ) → length bytes ≤ limit → limit < length bytes → A
too_short bytes within long = absurd (omega (arith, within, long))

module _ (one : AVerdictIsOne) (bytes : List ℕ) where
  due_yes : (lives turns : ℕ) → IsJudged bytes (Yes lives turns) → length bytes ≤ limit → HasDueAnswer bytes status.Done
  due_yes lives turns judged within = record {
    yes = λ other count is short. refl;
    no = λ life turn row is short. absurd (yes_no (one.one bytes (Yes lives turns) (No life turn row) judged is));
    bad = λ line bad short. absurd (one.none_bad bytes (Yes lives turns) line judged bad);
    long = too_short bytes within;
  }

  due_no : (life turn : ℕ) (row : HostRow) → IsJudged bytes (No life turn row) → length bytes ≤ limit → HasDueAnswer bytes status.Unjustified
  due_no life turn row judged within = record {
    yes = λ lives turns is short. absurd (yes_no (one.one bytes (Yes lives turns) (No life turn row) is judged));
    no = λ other number found is short. refl;
    bad = λ line bad short. absurd (one.none_bad bytes (No life turn row) line judged bad);
    long = too_short bytes within;
  }

  due_bad : (line : ℕ) → NamesBad bytes line → length bytes ≤ limit → HasDueAnswer bytes (status.Transcript line)
  due_bad line bad within = record {
    yes = λ lives turns is short. absurd (one.none_bad bytes (Yes lives turns) line is bad);
    no = λ life turn row is short. absurd (one.none_bad bytes (No life turn row) line is bad);
    bad = λ other also short. ap (λ n. status.Transcript n) (one.one_bad bytes line other bad also);
    long = too_short bytes within;
  }

due_long : (bytes : List ℕ) → limit < length bytes → HasDueAnswer bytes status.TooLong
due_long bytes long = record {
  yes = λ lives turns is short. too_short bytes short long;
  no = λ life turn row is short. too_short bytes short long;
  bad = λ line bad short. too_short bytes short long;
  long = λ again. refl;
}

-- memory was wanted
due_none : (bytes : List ℕ) → HasDueAnswer bytes status.NoMemory
due_none bytes = record {
  yes = λ lives turns is short. tt;
  no = λ life turn row is short. tt;
  bad = λ line bad short. tt;
  long = λ long. tt;
}

-- what was read is what is told
as_told : (input : Option (List ℕ)) (bytes read : List ℕ) (answer : Status) → input ≡ Some bytes → bytes ≡ read → HasDueAnswer read answer
    → HasDueAnswer bytes answer
as_told input bytes read answer told same due = subst (λ (b : List ℕ). HasDueAnswer b answer) (sym same) due

-- what such a work judges of a text that it gives
record SaysYes (bytes : List ℕ) : Type 0 where
  lives : ℕ
  turns : ℕ
  judged : IsJudged bytes (Yes lives turns)

-- a work that finds and refuses as `audit` does
abbrev audits : (List ℕ → List ℕ → Type 0) → Work
audits Gives = record { Gives = Gives; Finds = IsNoOf; Refuses = RefusesTranscript }

duly : (Gives : List ℕ → List ℕ → Type 0) → ((bytes text : List ℕ) → Gives bytes text → SaysYes bytes) → AVerdictIsOne → (answer : Status)
    (input old new : Option (List ℕ)) (a b p q : ℕ) → b ≡ a → q ≡ p → IsWorked (audits Gives) answer input old new
    → HasStatusCause answer a b p q → IsAnsweredDuly input answer
duly Gives judges one status.Done input old new a b p q read wrote answer cause = λ bytes told.
    as_told input bytes answer.bytes status.Done told (read_is input bytes answer.bytes told answer.read)
    (let said = judges answer.bytes answer.text answer.gives in due_yes one answer.bytes said.lives said.turns said.judged answer.in_limit)
duly Gives judges one status.Unjustified input old new a b p q read wrote answer cause = λ bytes told.
    as_told input bytes answer.bytes status.Unjustified told (read_is input bytes answer.bytes told answer.read)
    (due_no one answer.bytes answer.gives.life answer.gives.turn answer.gives.row answer.gives.judged answer.in_limit)
duly Gives judges one (status.Transcript line) input old new a b p q read wrote answer cause = λ bytes told.
    as_told input bytes answer.bytes (status.Transcript line) told (read_is input bytes answer.bytes told answer.read)
    (due_bad one answer.bytes line answer.why answer.in_limit)
duly Gives judges one status.TooLong input old new a b p q read wrote answer cause = λ bytes told. due_long bytes (subst IsTooLong told answer.0)
duly Gives judges one status.NoMemory input old new a b p q read wrote answer cause = λ bytes told. due_none bytes
duly Gives judges one status.ReadFault input old new a b p q read wrote answer cause = absurd (omega (arith, read, cause.0))
duly Gives judges one status.WriteFault input old new a b p q read wrote answer cause = absurd (omega (arith, wrote, cause.1))
duly Gives judges one status.Usage input old new a b p q read wrote answer cause = absurd answer
duly Gives judges one status.LinkFault input old new a b p q read wrote answer cause = absurd answer
duly Gives judges one status.TurnsOver input old new a b p q read wrote answer cause = absurd answer
duly Gives judges one (status.Script fault) input old new a b p q read wrote answer cause = absurd answer.why
duly Gives judges one (status.Conf fault) input old new a b p q read wrote answer cause = absurd answer.why
duly Gives judges one (status.Lease line) input old new a b p q read wrote answer cause = absurd answer.why
duly Gives judges one (status.Capture what) input old new a b p q read wrote answer cause = absurd answer.why
duly Gives judges one (status.Schedule line) input old new a b p q read wrote answer cause = absurd answer.why

pub answered_duly : AVerdictIsOne → (answer : Status) (input old new : Option (List ℕ)) (a b p q : ℕ) → b ≡ a → q ≡ p → IsAuditAnswer answer input old new
    → HasStatusCause answer a b p q → IsAnsweredDuly input answer
answered_duly one = duly IsYesOf (λ bytes text gives. record { lives = gives.lives; turns = gives.turns; judged = gives.judged }) one

pub explained_duly : AVerdictIsOne → (answer : Status) (input old new : Option (List ℕ)) (a b p q : ℕ) → b ≡ a → q ≡ p → IsWhyAnswer answer input old new
    → HasStatusCause answer a b p q → IsAnsweredDuly input answer
explained_duly one = duly IsWhyOf (λ bytes text gives. record { lives = gives.lives; turns = gives.turns; judged = gives.judged }) one
