-- Which scripts are replayed, and what their configurations have managed.
use Rattle.std.specs.Prelude.{ℕ, List, flat_map, Ok}
use Rattle.net_types.specs.FirstBadLine.{IsSpelled}
use Rattle.settings.specs.declared.interfaces.Managed.{Managed}
use Rattle.script_model.specs.ScriptTexts.{ScriptLines, ended}
use Rattle.replay_text.specs.LinesInOrder.{SpellsScript}
use Rattle.conf_text.specs.Configurations.{Configuration, IsConfOf}
use Rattle.conf_text.specs.Settings.{managed_of}

abbrev pub managed_in : ScriptLines → Configuration → List Managed
managed_in script conf = managed_of conf script.ifaces

-- the bytes spell this script
abbrev pub Spells : List ℕ → ScriptLines → Type 0
Spells bytes script = IsSpelled SpellsScript bytes script

-- the text of its configuration
abbrev pub configuration_text : ScriptLines → List ℕ
configuration_text script = flat_map ended script.conf

-- the bytes spell this script, and it has this configuration
pub record IsScript (bytes : List ℕ) (script : ScriptLines) (conf : Configuration) : Type 0 where
  pub spelled : Spells bytes script
  pub configured : IsConfOf (configuration_text script) (Ok conf)
