-- What the answers of `make` come to.
use Rattle.std.proofs.Common.{ℕ, ◌≡◌, ◌≤◌, List, [], Option, Some, None, Result, Ok, Err, IfOk, IfErr, inl, inr, refl, sym, ap, ◌∙◌, subst, arith}
use Rattle.settings.specs.Fitting.{AreManaged}
use Rattle.script_model.specs.ScriptTexts.{ScriptLines}
use Rattle.script_model.specs.Scripts.{FitsScript}
use Rattle.script_model.specs.Lines.{lines_text}
use Rattle.replay_text.specs.ScriptContent.{script_of}
use Rattle.conf_text.specs.Configurations.{Configuration, IsConfOf}
use Rattle.conf_text.specs.Contents.{configuration}
use Rattle.conf_text.specs.declared.answers.ConfFault.{ConfFault}
use Rattle.conf_laws.proofs.OneLaws.{configuration_one}
use Rattle.made_script.specs.MadeLines.{made_lines}
use Rattle.made_script.proofs.FitLines.{lines_fit}
use Rattle.made_script.proofs.GoodConfLaws.{conf_is_good}
use Rattle.transcript_summary.specs.Summaries.{summary}
use Rattle.daemon.specs.Streams.{WritesSome, WritesLines}
use Rattle.replayed_lives.specs.TextWorks.declared.settling.Settled.{Settled}
use Rattle.replayed_lives.specs.TextWorks.declared.status.Status.{Status}
use Rattle.replayed_lives.specs.TextWorks.declared.status.Status.TheVariants as status
use Rattle.replayed_lives.specs.TextWorks.Input.{ReadsWithin, InputTold, Takes}
use Rattle.dhcpcd.specs.Living.{HasLinkCause}
use Rattle.dhcpcd.specs.Making.{IsMade, IsMadeTranscript, IsMadeAnswer}
use Rattle.replayed_lives.specs.TextWorks.Refusals.{IsConfRefused}
use Rattle.replayed_lives.specs.TextWorks.SpelledScripts.{configuration_text, managed_in}
use Rattle.replayed_lives.specs.Replays.{transcript}
use Rattle.replayed_lives.specs.TextWorks.Settling.{IsSettledAs}
use Rattle.replayed_lives.specs.TextWorks.Statuses.{HasStatusCause, StopsWriting, Completes}
use Rattle.asked_works.proofs.AskedApart.{asked_apart}
use Rattle.replayed_lives.proofs.TextWorks.Endings.{stops_writing}
use Rattle.replayed_lives.proofs.TextWorks.Refusals.{in_force}

-- ---- the script is settled

err_ok : {A B : Type 0} {a : A} {b : B} → Err b ≡ Ok a → ⊥
err_ok e = cc

no_fault : (rounds : ℕ) (fault : ConfFault) → IsConfOf (configuration_text (made_lines rounds)) (Err fault) → ⊥
no_fault rounds fault bad = err_ok (configuration_one (configuration_text (made_lines rounds)) (Err fault) (Ok conf_is_good.0) bad conf_is_good.1)

only_memory : (rounds : ℕ) (answer : Status) → IsConfRefused (configuration_text (made_lines rounds)) answer → answer ≡ status.NoMemory
only_memory rounds status.Done refused = absurd refused
only_memory rounds status.Usage refused = absurd refused
only_memory rounds (status.Script fault) refused = absurd refused
only_memory rounds (status.Conf fault) refused = absurd (no_fault rounds fault refused)
only_memory rounds status.ReadFault refused = absurd refused
only_memory rounds status.WriteFault refused = absurd refused
only_memory rounds status.LinkFault refused = absurd refused
only_memory rounds status.TurnsOver refused = absurd refused
only_memory rounds (status.Lease line) refused = absurd refused
only_memory rounds (status.Capture what) refused = absurd refused
only_memory rounds (status.Schedule line) refused = absurd refused
only_memory rounds (status.Transcript line) refused = absurd refused
only_memory rounds status.Unjustified refused = absurd refused
only_memory rounds status.TooLong refused = absurd refused
only_memory rounds status.NoMemory refused = refl

pub made_settled : (script : ScriptLines) (rounds : ℕ) (result : Result Settled Status) → script ≡ made_lines rounds → IfOk result (IsSettledAs script)
    → IfOk result (IsSettledAs (made_lines rounds))
made_settled script rounds result same is = subst (λ (lines : ScriptLines). IfOk result (IsSettledAs lines)) same is

pub never_refused : (script : ScriptLines) (rounds : ℕ) (result : Result Settled Status) → script ≡ made_lines rounds
    → IfErr result (IsConfRefused (configuration_text script)) → IfErr result (λ answer. answer ≡ status.NoMemory)
never_refused script rounds (Ok s) same refused = tt
never_refused script rounds (Err answer) same refused =
    only_memory rounds answer (subst (λ (lines : ScriptLines). IsConfRefused (configuration_text lines) answer) same refused)

-- ---- its transcript

pub made_fits : (rounds : ℕ) (s : Settled) → rounds ≤ 100 → IsSettledAs (made_lines rounds) s → FitsScript (script_of s.script)
made_fits rounds s few is = subst FitsScript (sym is.script_is) (lines_fit rounds few)

pub made_manages : (rounds : ℕ) (s : Settled) → IsSettledAs (made_lines rounds) s → s.managed.items ≡ managed_in (script_of s.script) (configuration s.conf)
made_manages rounds s is = subst (λ (lines : ScriptLines). s.managed.items ≡ managed_in lines (configuration s.conf)) (sym is.script_is) is.managed

made_in_force : (rounds : ℕ) (conf : Configuration) → rounds ≤ 100 → IsConfOf (configuration_text (made_lines rounds)) (Ok conf)
    → AreManaged (managed_in (made_lines rounds) conf)
made_in_force rounds conf few is =
    let fits = lines_fit rounds few in
    let all = in_force (configuration_text (made_lines rounds)) conf is (made_lines rounds).ifaces fits.ifaces in
    all.fit

pub made_managed : (rounds : ℕ) (s : Settled) → rounds ≤ 100 → IsSettledAs (made_lines rounds) s → AreManaged s.managed.items
made_managed rounds s few is = subst AreManaged (sym is.managed) (made_in_force rounds (configuration s.conf) few is.configured)

some_is : {A : Type 0} {a b : A} → Some a ≡ Some b → a ≡ b
some_is e = cc

pub made_written : (rounds : ℕ) (s : Settled) (text : List ℕ) → IsSettledAs (made_lines rounds) s
    → WritesLines (Some []) (Some text) (transcript (script_of s.script) (configuration s.conf)) → IsMadeTranscript rounds text
made_written rounds s text is written = record {
  conf = configuration s.conf;
  configured = is.configured;
  is = some_is written.bytes ∙ ap (λ (lines : ScriptLines). lines_text (transcript lines (configuration s.conf))) is.script_is;
}

-- where no write failed, memory was wanted
pub never_stopped : (answer : Status) (old new : ℕ) → HasStatusCause answer 0 0 old new → StopsWriting answer → new ≡ old → answer ≡ status.NoMemory
never_stopped status.Done old new cause stops same = absurd stops
never_stopped status.Usage old new cause stops same = absurd stops
never_stopped (status.Script fault) old new cause stops same = absurd stops
never_stopped (status.Conf fault) old new cause stops same = absurd stops
never_stopped status.ReadFault old new cause stops same = absurd stops
never_stopped status.WriteFault old new cause stops same = absurd (omega (arith, same, cause.1))
never_stopped status.LinkFault old new cause stops same = absurd stops
never_stopped status.TurnsOver old new cause stops same = absurd stops
never_stopped (status.Lease line) old new cause stops same = absurd stops
never_stopped (status.Capture what) old new cause stops same = absurd stops
never_stopped (status.Schedule line) old new cause stops same = absurd stops
never_stopped (status.Transcript line) old new cause stops same = absurd stops
never_stopped status.Unjustified old new cause stops same = absurd stops
never_stopped status.TooLong old new cause stops same = absurd stops
never_stopped status.NoMemory old new cause stops same = refl

-- ---- what is written of its summary

pub unwritten_answer : (answer : Status) (rounds : ℕ) (out : Option (List ℕ)) → answer ≡ status.NoMemory → IsMadeAnswer answer rounds out out
unwritten_answer answer rounds out is = subst (λ (s : Status). IsMadeAnswer s rounds out out) (sym is) (inl refl)

pub stopped_make : (answer : Status) (rounds : ℕ) (old new : Option (List ℕ)) (text : List ℕ) → IsMadeTranscript rounds text
    → WritesSome old new (summary rounds text) → StopsWriting answer → IsMadeAnswer answer rounds old new
stopped_make answer rounds old new text made written stops =
    stops_writing (λ (s : Status). IsMadeAnswer s rounds old new) answer stopped (inr stopped) stops
  where
    stopped : IsMade (WritesSome old new) rounds
    stopped = record { text = text; made = made; written = written }

-- ---- beside the input and the link, which aren't asked

pub make_completes : (answer : Status) (rounds a b : ℕ) (old new : Option (List ℕ)) → IsMadeAnswer answer rounds old new → HasStatusCause answer 0 0 a b → b ≡ a
    → Completes answer
make_completes status.Done rounds a b old new answer cause same = tt
make_completes status.Usage rounds a b old new answer cause same = absurd answer
make_completes (status.Script fault) rounds a b old new answer cause same = absurd answer
make_completes (status.Conf fault) rounds a b old new answer cause same = absurd answer
make_completes status.ReadFault rounds a b old new answer cause same = absurd answer
make_completes status.WriteFault rounds a b old new answer cause same = absurd (omega (arith, same, cause.1))
make_completes status.LinkFault rounds a b old new answer cause same = absurd answer
make_completes status.TurnsOver rounds a b old new answer cause same = absurd answer
make_completes (status.Lease line) rounds a b old new answer cause same = absurd answer
make_completes (status.Capture what) rounds a b old new answer cause same = absurd answer
make_completes (status.Schedule line) rounds a b old new answer cause same = absurd answer
make_completes (status.Transcript line) rounds a b old new answer cause same = absurd answer
make_completes status.Unjustified rounds a b old new answer cause same = absurd answer
make_completes status.TooLong rounds a b old new answer cause same = absurd answer
make_completes status.NoMemory rounds a b old new answer cause same = tt

pub cause_beside : (answer : Status) (input a b : ℕ) → HasStatusCause answer 0 0 a b → HasStatusCause answer input input a b
cause_beside status.Done input a b cause = (omega arith, cause.1)
cause_beside status.Usage input a b cause = (omega arith, cause.1)
cause_beside (status.Script fault) input a b cause = (omega arith, cause.1)
cause_beside (status.Conf fault) input a b cause = (omega arith, cause.1)
cause_beside status.ReadFault input a b cause = absurd (omega (arith, cause.0))
cause_beside status.WriteFault input a b cause = (omega arith, cause.1)
cause_beside status.LinkFault input a b cause = (omega arith, cause.1)
cause_beside status.TurnsOver input a b cause = (omega arith, cause.1)
cause_beside (status.Lease line) input a b cause = (omega arith, cause.1)
cause_beside (status.Capture what) input a b cause = (omega arith, cause.1)
cause_beside (status.Schedule line) input a b cause = (omega arith, cause.1)
cause_beside (status.Transcript line) input a b cause = (omega arith, cause.1)
cause_beside status.Unjustified input a b cause = (omega arith, cause.1)
cause_beside status.TooLong input a b cause = (omega arith, cause.1)
cause_beside status.NoMemory input a b cause = (omega arith, cause.1)

pub no_link_cause : (answer : Status) (rounds link : ℕ) (old new : Option (List ℕ)) → IsMadeAnswer answer rounds old new → HasLinkCause answer link link
no_link_cause status.Done rounds link old new answer = omega arith
no_link_cause status.Usage rounds link old new answer = omega arith
no_link_cause (status.Script fault) rounds link old new answer = omega arith
no_link_cause (status.Conf fault) rounds link old new answer = omega arith
no_link_cause status.ReadFault rounds link old new answer = omega arith
no_link_cause status.WriteFault rounds link old new answer = omega arith
no_link_cause status.LinkFault rounds link old new answer = absurd answer
no_link_cause status.TurnsOver rounds link old new answer = omega arith
no_link_cause (status.Lease line) rounds link old new answer = omega arith
no_link_cause (status.Capture what) rounds link old new answer = omega arith
no_link_cause (status.Schedule line) rounds link old new answer = omega arith
no_link_cause (status.Transcript line) rounds link old new answer = omega arith
no_link_cause status.Unjustified rounds link old new answer = omega arith
no_link_cause status.TooLong rounds link old new answer = omega arith
no_link_cause status.NoMemory rounds link old new answer = omega arith

takes_nothing : (left : Option (List ℕ)) → Takes 0 left left
takes_nothing None = tt
takes_nothing (Some bytes) = (omega arith, refl)

pub reads_nothing : (told : InputTold) → ReadsWithin told told
reads_nothing told = record { taken = 0; few = omega arith; takes = takes_nothing told.left; counted = λ in_range. omega arith; reads = omega arith }

-- words ask for one work alone
pub ruleset words_ask_apart = (asked_apart)

-- what `make` comes to beside the input and the link
pub ruleset make_beside = (cause_beside, no_link_cause, reads_nothing)

-- the life of a script that was made
pub ruleset made_lives = (made_managed, made_manages, made_written, never_stopped)
