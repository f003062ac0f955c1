-- The configuration of the script is one without a fault.
use Rattle.std.specs.Prelude.{ℕ, List, flat_map, Ok}
use Rattle.script_model.specs.ScriptTexts.{ended}
use Rattle.conf_text.specs.Configurations.{Configuration, IsConfOf}
use Rattle.made_script.specs.MadeLines.{made_conf}

abbrev pub made_conf_text : List ℕ
made_conf_text = flat_map ended made_conf

abbrev pub ConfIsGood : Type 0
ConfIsGood = (conf : Configuration) × IsConfOf made_conf_text (Ok conf)
