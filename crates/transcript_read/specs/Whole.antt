-- What comes of a whole transcript, and which texts are none.
use Rattle.std.specs.Prelude.{◌≡◌, ℕ, List}
use Rattle.net_types.specs.FirstBadLine.{FirstBad, IsSpelled}
use Rattle.conf_text.specs.Configurations.{Configuration}
use Rattle.script_model.specs.Lines.{Line}
use Rattle.transcript_model.specs.Told.{Told, body_lines}
use Rattle.transcript_model.specs.Transcripts.{SpellsTold}
use Rattle.transcript_read.specs.declared.answers.TranscriptAnswer.{TranscriptAnswer}
use Rattle.transcript_read.specs.declared.answers.TranscriptAnswer.TheVariants as answers
use Rattle.transcript_read.specs.Bodies.{AnyCause, followed}

-- the text is a transcript, and this is what comes of the lines after its head
pub record IsFollowedWhole {J : Type 0} (first : Configuration → J) (after : J → Line → J) (text : List ℕ) (end : J)
    : Type 0 where
  pub told : Told
  pub spelled : IsSpelled SpellsTold text told
  pub follows : end ≡ followed after (first told.configuration) (body_lines told.body)

-- the first bad line: some transcript begins with the lines before it, and none goes on with it; where the text ends
-- there, it is none
abbrev pub IsBadLine : List ℕ → ℕ → Type 0
IsBadLine text number = FirstBad SpellsTold AnyCause text number tt

abbrev pub IsNoTranscript : List ℕ → TranscriptAnswer → Type 0
IsNoTranscript text (answers.Bad line) = IsBadLine text line
IsNoTranscript text answers.NoMemory = Unit {0}

-- A text is one transcript at most.
abbrev pub TranscriptsAreOne : Type 0
TranscriptsAreOne =
    (text : List ℕ) (one other : Told) → IsSpelled SpellsTold text one → IsSpelled SpellsTold text other → one ≡ other
