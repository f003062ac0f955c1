-- What `make` writes: the summary of the transcript of a script of its own.
use Rattle.std.specs.Prelude.{ℕ, ◌≡◌, ◌⊎◌, List, Option, Ok}
use Rattle.script_model.specs.Lines.{lines_text}
use Rattle.conf_text.specs.Configurations.{Configuration, IsConfOf}
use Rattle.made_script.specs.MadeLines.{made_lines}
use Rattle.transcript_summary.specs.Summaries.{summary}
use Rattle.daemon.specs.Streams.{WritesBytes, WritesSome}
use Rattle.replayed_lives.specs.TextWorks.declared.status.Status.{Status}
use Rattle.replayed_lives.specs.TextWorks.declared.status.Status.TheVariants as status
use Rattle.replayed_lives.specs.TextWorks.SpelledScripts.{configuration_text}
use Rattle.replayed_lives.specs.Replays.{transcript}

-- the text is the transcript of the script of so many rounds
pub record IsMadeTranscript (rounds : ℕ) (text : List ℕ) : Type 0 where
  pub conf : Configuration
  pub configured : IsConfOf (configuration_text (made_lines rounds)) (Ok conf)
  pub is : text ≡ lines_text (transcript (made_lines rounds) conf)

-- this was written of its summary
pub record IsMade (Writes : List ℕ → Type 0) (rounds : ℕ) : Type 0 where
  pub text : List ℕ
  pub made : IsMadeTranscript rounds text
  pub written : Writes (summary rounds text)

-- what make answers, by what is written before and after
abbrev pub IsMadeAnswer : Status → (rounds : ℕ) → (old new : Option (List ℕ)) → Type 0
IsMadeAnswer status.Done rounds old new = IsMade (WritesBytes old new) rounds
IsMadeAnswer status.WriteFault rounds old new = IsMade (WritesSome old new) rounds
IsMadeAnswer status.NoMemory rounds old new = (new ≡ old) ⊎ IsMade (WritesSome old new) rounds
IsMadeAnswer other rounds old new = ⊥
