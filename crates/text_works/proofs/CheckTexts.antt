-- The text that `check` writes.
use Rattle.std.proofs.Common.{ℕ, ◌≡◌, List, ◌++◌, Option, Ok, Err, codes, refl, ap, ◌∙◌, append_assoc}
use Rattle.std.specs.Prelude.{map}
use Rattle.script_model.specs.Lines.{lines_text}
use Rattle.device_calls.specs.Printing.{Prints}
use Rattle.conf_text.specs.Configurations.{NoticeContent, Configuration}
use Rattle.conf_laws.proofs.OneLaws.{configuration_one}
use Rattle.text_works.specs.declared.status.Status.{Status}
use Rattle.text_works.specs.declared.status.Status.TheVariants as status
use Rattle.text_works.specs.Checks.{IsCheckOf, RefusesConfiguration, TellsConfiguration, check_text, checking}
use Rattle.text_works.specs.Refusals.{IsConfRefused}
use Rattle.text_works.specs.Works.{IsDecided, MayRefuse, Serves}
use Rattle.text_works.specs.Heads.{notice_line}
use Rattle.text_works.proofs.WorkLaws.{finds_nothing}

-- the notices, and then `ok`
pub all_said : (t u v : List ℕ) (said : List NoticeContent) (conf : Configuration) → said ≡ conf.notices → Prints t u (map notice_line said)
    → v ≡ u ++ codes "ok\n" → v ≡ t ++ check_text conf
all_said t u v said conf same p e =
    e ∙ ap (λ (x : List ℕ). x ++ codes "ok\n") (p.appended ∙ ap (λ (ns : List NoticeContent). t ++ lines_text (map notice_line ns)) same)
    ∙ append_assoc t (lines_text (map notice_line conf.notices)) (codes "ok\n")

-- ---- the work

err_ok : {A B : Type 0} {a : A} {b : B} → Err b ≡ Ok a → ⊥
err_ok e = cc

-- a configuration has no fault
configuration_taken : (bytes text : List ℕ) (answer : Status) → IsCheckOf bytes text → RefusesConfiguration bytes answer → ⊥
configuration_taken bytes text (status.Conf fault) gives refuses = err_ok (configuration_one bytes (Err fault) (Ok gives.conf) refuses gives.configured)
configuration_taken bytes text status.Done gives refuses = absurd refuses
configuration_taken bytes text status.Usage gives refuses = absurd refuses
configuration_taken bytes text (status.Script fault) gives refuses = absurd refuses
configuration_taken bytes text status.ReadFault gives refuses = absurd refuses
configuration_taken bytes text status.WriteFault gives refuses = absurd refuses
configuration_taken bytes text status.LinkFault gives refuses = absurd refuses
configuration_taken bytes text status.TurnsOver gives refuses = absurd refuses
configuration_taken bytes text (status.Lease line) gives refuses = absurd refuses
configuration_taken bytes text (status.Capture what) gives refuses = absurd refuses
configuration_taken bytes text (status.Schedule line) gives refuses = absurd refuses
configuration_taken bytes text (status.Transcript line) gives refuses = absurd refuses
configuration_taken bytes text status.Unjustified gives refuses = absurd refuses
configuration_taken bytes text status.TooLong gives refuses = absurd refuses
configuration_taken bytes text status.NoMemory gives refuses = absurd refuses

pub checking_is_decided : IsDecided checking
checking_is_decided = finds_nothing IsCheckOf RefusesConfiguration configuration_taken

pub configuration_serves : (input : Option (List ℕ)) → TellsConfiguration input → Serves checking input
configuration_serves input tells = record {
  bytes = tells.bytes;
  text = check_text tells.conf;
  told = tells.told;
  in_limit = tells.in_limit;
  gives = record { conf = tells.conf; configured = tells.configured; says = refl };
}

-- a configuration that isn't read is refused
pub refused_check : (bytes : List ℕ) (answer : Status) → IsConfRefused bytes answer → MayRefuse (checking.Refuses bytes) answer
refused_check bytes (status.Conf fault) refused = (tt, refused)
refused_check bytes status.NoMemory refused = tt
refused_check bytes status.Done refused = absurd refused
refused_check bytes status.Usage refused = absurd refused
refused_check bytes (status.Script fault) refused = absurd refused
refused_check bytes status.ReadFault refused = absurd refused
refused_check bytes status.WriteFault refused = absurd refused
refused_check bytes status.LinkFault refused = absurd refused
refused_check bytes status.TurnsOver refused = absurd refused
refused_check bytes (status.Lease line) refused = absurd refused
refused_check bytes (status.Capture what) refused = absurd refused
refused_check bytes (status.Schedule line) refused = absurd refused
refused_check bytes (status.Transcript line) refused = absurd refused
refused_check bytes status.Unjustified refused = absurd refused
refused_check bytes status.TooLong refused = absurd refused
