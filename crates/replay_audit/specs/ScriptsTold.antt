-- What the transcript of a script tells.
use Rattle.std.specs.Prelude.{List, [], ◌∷◌}
use Rattle.net_types.specs.declared.interface.IfSpec.{IfSpec}
use Rattle.settings.specs.declared.interfaces.Managed.{Managed}
use Rattle.conf_text.specs.Configurations.{Configuration}
use Rattle.script_model.specs.ScriptTexts.{LifeScript, ScriptLines}
use Rattle.transcript_model.specs.Told.{BodyTold, LifeTold, Told}
use Rattle.audit_model.specs.LivesTold.{life_lived}
use Rattle.replayed_lives.specs.Replays.{Failing, Between, after_life, at_first, failing_in, mets_in, opening_in}
use Rattle.replayed_lives.specs.TextWorks.SpelledScripts.{managed_in}

-- a life over the devices that the life before left
abbrev pub life_told : List Managed → List IfSpec → Failing → Between → LifeScript → LifeTold
life_told managed specs failing between life =
    life_lived (opening_in managed specs failing between life) (mets_in managed specs failing between life)

-- lives one after another
abbrev pub lives_told : List Managed → List IfSpec → Failing → Between → List LifeScript → List LifeTold
lives_told managed specs failing between [] = []
lives_told managed specs failing between (life ∷ lives) =
    life_told managed specs failing between life
    ∷ lives_told managed specs failing (after_life managed specs failing between life) lives

-- the interfaces of the script, and its lives with those that the configuration has managed
abbrev pub body_of : ScriptLines → Configuration → BodyTold
body_of script conf = record {
  ifaces = script.ifaces;
  lives = lives_told (managed_in script conf) script.ifaces (failing_in script.fails)
      (at_first script.rows script.files script.polls) script.lives;
}

abbrev pub told_of : ScriptLines → Configuration → Told
told_of script conf = record { conf = script.conf; configuration = conf; body = body_of script conf }
