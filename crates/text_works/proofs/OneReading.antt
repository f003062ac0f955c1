-- What is refused is no script, since bytes are read in one way.
use Rattle.std.proofs.Common.{ℕ, ◌≡◌, List, Ok, Err, subst}
use Rattle.std.specs.Prelude.{Result}
use Rattle.lease_text.proofs.SpelledOnce.{no_bad_line}
use Rattle.script_model.specs.ScriptTexts.{ScriptLines}
use Rattle.replay_text.specs.FirstFaults.{IsFault}
use Rattle.replay_text.proofs.FaultLaws.{scripts_are_one}
use Rattle.replay_text.specs.declared.faults.ScriptFault.{ScriptFault}
use Rattle.conf_text.specs.Configurations.{Configuration, IsConfOf}
use Rattle.conf_laws.proofs.OneLaws.{configuration_one}
use Rattle.conf_text.specs.declared.answers.ConfFault.{ConfFault}
use Rattle.text_works.specs.Refusals.{IsConfFault, IsNoScript}
use Rattle.text_works.specs.SpelledScripts.{IsScript, Spells, configuration_text}

-- ---- what is refused is no script

no_fault : (bytes : List ℕ) (fault : ScriptFault) → IsFault bytes fault → IsNoScript bytes
no_fault bytes fault bad script conf is = no_bad_line bytes script fault.line fault.cause is.spelled bad

-- a script that the bytes spell, and a configuration of it, are those of the script that is replayed
module _ (bytes : List ℕ) (script : ScriptLines) (spelled : Spells bytes script) (told : Result Configuration ConfFault)
    (is_conf : IsConfOf (configuration_text script) told) where
  same_told : (other : ScriptLines) (conf : Configuration) → IsScript bytes other conf → told ≡ Ok conf
  same_told other conf is =
      configuration_one (configuration_text other) told (Ok conf)
      (subst (λ (s : ScriptLines). IsConfOf (configuration_text s) told) (scripts_are_one bytes script other spelled is.spelled) is_conf) is.configured

err_ok : {A B : Type 0} {a : A} {b : B} → Err b ≡ Ok a → ⊥
err_ok e = cc

no_configuration : (bytes : List ℕ) (fault : ConfFault) → IsConfFault bytes fault → IsNoScript bytes
no_configuration bytes fault bad script conf is = err_ok (same_told bytes bad.script bad.spelled (Err fault) bad.told script conf is)

pub fault_refuses : (bytes : List ℕ) (fault : ScriptFault) → IsFault bytes fault → IsNoScript bytes
fault_refuses = no_fault

pub conf_fault_refuses : (bytes : List ℕ) (fault : ConfFault) → IsConfFault bytes fault → IsNoScript bytes
conf_fault_refuses = no_configuration
