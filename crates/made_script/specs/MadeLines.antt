-- What the script says.
use Rattle.std.specs.Prelude.{ℕ, List, [], ◌∷◌, codes, None}
use Rattle.script_model.specs.ScriptTexts.{ScriptLines, LifeScript}
use Rattle.made_script.specs.declared.script.TheConstants.{BEGIN}
use Rattle.made_script.specs.MadeHosts.{made_ifaces}
use Rattle.made_script.specs.MadeTurns.{made_turns}

abbrev pub made_conf : List (List ℕ)
made_conf = codes "nodelay" ∷ codes "noarp" ∷ codes "script /dev/null" ∷ []

abbrev pub made_life : (rounds : ℕ) → LifeScript
made_life rounds = record { begin = BEGIN; turns = made_turns rounds; crash = None }

abbrev pub made_lines : (rounds : ℕ) → ScriptLines
made_lines rounds = record {
  conf = made_conf;
  ifaces = made_ifaces;
  rows = [];
  files = [];
  fails = [];
  polls = [];
  lives = made_life rounds ∷ [];
}
