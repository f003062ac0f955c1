-- What the answers of `replay` come to.
use Rattle.std.proofs.Common.{ℕ, ◌≡◌, ◌≤◌, List, [], length, Option, inl, inr, subst, arith}
use Rattle.script_model.specs.ScriptTexts.{ScriptLines}
use Rattle.conf_text.specs.Configurations.{Configuration}
use Rattle.daemon.specs.Streams.{WritesFront}
use Rattle.text_works.specs.declared.status.Status.{Status}
use Rattle.text_works.specs.declared.status.Status.TheVariants as status
use Rattle.text_works.specs.Input.{limit, IsInput}
use Rattle.text_works.specs.Refusals.{IsNoScript, IsRefused}
use Rattle.text_works.specs.SpelledScripts.{IsScript}
use Rattle.text_works.specs.Statuses.{HasStatusCause, StopsWriting, Completes}
use Rattle.text_works.proofs.Endings.{stops_writing, read_is, not_too_long}
use Rattle.text_works.proofs.OneReading.{fault_refuses, conf_fault_refuses}
use Rattle.replayed_lives.specs.Replays.{transcript}
use Rattle.replayed_lives.specs.Replaying.{TellsScript, IsStopped, IsAnswer}

-- ---- writing stopped before its end

pub stopped_answer : (answer : Status) (input old new : Option (List ℕ)) (bytes : List ℕ) (script : ScriptLines) (conf : Configuration) → IsInput input bytes
    → length bytes ≤ limit → IsScript bytes script conf
    → WritesFront old new [] (transcript script conf) → StopsWriting answer → IsAnswer answer input old new
stopped_answer answer input old new bytes script conf read within is front stops =
    stops_writing (λ (s : Status). IsAnswer s input old new) answer stopped (inr stopped) stops
  where
    stopped : IsStopped input old new
    stopped = record { bytes = bytes; script = script; conf = conf; read = read; in_limit = within; is_script = is; written = front }

-- ---- nothing was written

pub refused_answer : (answer : Status) (input old new : Option (List ℕ)) (bytes : List ℕ) → IsInput input bytes → length bytes ≤ limit → new ≡ old
    → IsRefused bytes answer → IsAnswer answer input old new
refused_answer status.Done input old new bytes read within same refused = absurd refused
refused_answer status.Usage input old new bytes read within same refused = absurd refused
refused_answer (status.Script fault) input old new bytes read within same refused =
    record { bytes = bytes; read = read; in_limit = within; why = refused; unwritten = same }
refused_answer (status.Conf fault) input old new bytes read within same refused =
    record { bytes = bytes; read = read; in_limit = within; why = refused; unwritten = same }
refused_answer status.ReadFault input old new bytes read within same refused = absurd refused
refused_answer status.WriteFault input old new bytes read within same refused = absurd refused
refused_answer status.LinkFault input old new bytes read within same refused = absurd refused
refused_answer status.TurnsOver input old new bytes read within same refused = absurd refused
refused_answer (status.Lease line) input old new bytes read within same refused = absurd refused
refused_answer (status.Capture what) input old new bytes read within same refused = absurd refused
refused_answer (status.Schedule line) input old new bytes read within same refused = absurd refused
refused_answer (status.Transcript line) input old new bytes read within same refused = absurd refused
refused_answer status.Unjustified input old new bytes read within same refused = absurd refused
refused_answer status.TooLong input old new bytes read within same refused = absurd refused
refused_answer status.NoMemory input old new bytes read within same refused = inl same

-- ---- a good input is refused by nothing

not_refused : (input : Option (List ℕ)) (bytes : List ℕ) → TellsScript input → IsInput input bytes → IsNoScript bytes → ⊥
not_refused input bytes tells read none =
    none tells.script tells.conf (subst (λ (b : List ℕ). IsScript b tells.script tells.conf) (read_is input tells.bytes bytes tells.told read) tells.is_script)

-- a script over streams that didn't fail was replayed, or memory was wanted
pub completes : (answer : Status) (input old new : Option (List ℕ)) (a b p q : ℕ) → TellsScript input → b ≡ a → q ≡ p → IsAnswer answer input old new
    → HasStatusCause answer a b p q → Completes answer
completes status.Done input old new a b p q tells read wrote answer cause = tt
completes status.Usage input old new a b p q tells read wrote answer cause = absurd answer
completes (status.Script fault) input old new a b p q tells read wrote answer cause =
    not_refused input answer.bytes tells answer.read (fault_refuses answer.bytes fault answer.why)
completes (status.Conf fault) input old new a b p q tells read wrote answer cause =
    not_refused input answer.bytes tells answer.read (conf_fault_refuses answer.bytes fault answer.why)
completes status.ReadFault input old new a b p q tells read wrote answer cause = absurd (omega (arith, read, cause.0))
completes status.WriteFault input old new a b p q tells read wrote answer cause = absurd (omega (arith, wrote, cause.1))
completes status.LinkFault input old new a b p q tells read wrote answer cause = absurd answer
completes status.TurnsOver input old new a b p q tells read wrote answer cause = absurd answer
completes (status.Lease line) input old new a b p q tells read wrote answer cause = absurd answer
completes (status.Capture what) input old new a b p q tells read wrote answer cause = absurd answer
completes (status.Schedule line) input old new a b p q tells read wrote answer cause = absurd answer
completes (status.Transcript line) input old new a b p q tells read wrote answer cause = absurd answer
completes status.Unjustified input old new a b p q tells read wrote answer cause = absurd answer
completes status.TooLong input old new a b p q tells read wrote answer cause = absurd (not_too_long input tells.bytes tells.told tells.in_limit answer.0)
completes status.NoMemory input old new a b p q tells read wrote answer cause = tt

-- what a replay that was not whole answers
pub ruleset replay_answers = (refused_answer, stopped_answer)
