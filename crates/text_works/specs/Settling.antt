-- What was read of an input.
use Rattle.std.specs.Prelude.{ℕ, ◌≡◌, List, Ok}
use Rattle.conf_text.specs.Configurations.{IsConfOf}
use Rattle.conf_text.specs.Contents.{configuration}
use Rattle.script_model.specs.ScriptTexts.{ScriptLines}
use Rattle.replay_text.specs.ScriptLines.declared.script.Script.{Script}
use Rattle.replay_text.specs.ScriptContent.{script_of, HoldsLines}
use Rattle.text_works.specs.declared.settling.Settled.{Settled}
use Rattle.text_works.specs.SpelledScripts.{IsScript, Spells, configuration_text, managed_in}

-- the bytes spell the script; each line of its configuration is there with its line feed
pub record IsRead (bytes : List ℕ) (script : Script) : Type 0 where
  pub spelled : Spells bytes (script_of script)
  pub lines : HoldsLines script.conf.items

-- this script with its configuration, all of which is built, and the interfaces that this has managed
pub record IsSettledAs (script : ScriptLines) (settled : Settled) : Type 0 where
  pub script_is : script_of settled.script ≡ script
  pub configured : IsConfOf (configuration_text script) (Ok (configuration settled.conf))
  pub managed : settled.managed.items ≡ managed_in script (configuration settled.conf)

-- a script that the bytes spell, with its configuration and what it has managed
pub record IsSettled (bytes : List ℕ) (settled : Settled) : Type 0 where
  pub is_script : IsScript bytes (script_of settled.script) (configuration settled.conf)
  pub managed : settled.managed.items ≡ managed_in (script_of settled.script) (configuration settled.conf)
