-- Why an input is refused.
use Rattle.std.specs.Prelude.{ℕ, ◌≡◌, ◌≤◌, List, length, Option, Err}
use Rattle.script_model.specs.ScriptTexts.{ScriptLines}
use Rattle.replay_text.specs.FirstFaults.{IsFault}
use Rattle.conf_text.specs.Configurations.{Configuration, IsConfOf}
use Rattle.conf_text.specs.declared.answers.ConfFault.{ConfFault}
use Rattle.text_works.specs.declared.status.Status.{Status}
use Rattle.text_works.specs.declared.status.Status.TheVariants as status
use Rattle.text_works.specs.Input.{limit, IsInput}
use Rattle.text_works.specs.SpelledScripts.{IsScript, Spells, configuration_text}

-- the bytes spell a script, and this is the first bad line of its configuration, counted within that
pub record IsConfFault (bytes : List ℕ) (fault : ConfFault) : Type 0 where
  pub script : ScriptLines
  pub spelled : Spells bytes script
  pub told : IsConfOf (configuration_text script) (Err fault)

-- Why bytes aren't replayed; want of memory is free.
abbrev pub IsRefused : List ℕ → Status → Type 0
IsRefused bytes (status.Script fault) = IsFault bytes fault
IsRefused bytes (status.Conf fault) = IsConfFault bytes fault
IsRefused bytes status.NoMemory = Unit {0}
IsRefused bytes other = ⊥

-- why bytes are no script; want of memory is free
abbrev pub IsReadRefused : List ℕ → Status → Type 0
IsReadRefused bytes (status.Script fault) = IsFault bytes fault
IsReadRefused bytes status.NoMemory = Unit {0}
IsReadRefused bytes other = ⊥

-- why a text is no configuration; want of memory is free
abbrev pub IsConfRefused : List ℕ → Status → Type 0
IsConfRefused text (status.Conf fault) = IsConfOf text (Err fault)
IsConfRefused text status.NoMemory = Unit {0}
IsConfRefused text other = ⊥

-- no script spells the bytes, with a good configuration
abbrev pub IsNoScript : List ℕ → Type 0
IsNoScript bytes = (script : ScriptLines) (conf : Configuration) → IsScript bytes script conf → ⊥

-- the input was read whole and refused for this; nothing was written
pub record IsRefusal (because : List ℕ → Type 0) (input : Option (List ℕ)) (old new : Option (List ℕ)) : Type 0 where
  pub bytes : List ℕ
  pub read : IsInput input bytes
  pub in_limit : length bytes ≤ limit
  pub why : because bytes
  pub unwritten : new ≡ old
