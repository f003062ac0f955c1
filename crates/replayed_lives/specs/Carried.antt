-- What the devices in memory hold between two lives.
use Rattle.std.specs.Prelude.{ℕ, List}
use Rattle.net_types.specs.declared.interface.IfSpec.{IfSpec}
use Rattle.settings.specs.declared.interfaces.Managed.{Managed}
use Rattle.script_model.specs.Lines.{Line}
use Rattle.script_model.specs.ScriptTexts.{LifeScript}
use Rattle.replayed_lives.specs.declared.memory.Between.{Between}
use Rattle.replayed_lives.specs.Replays as lives
use Rattle.replayed_lives.specs.Replays.{Failing, life_in}

abbrev pub between_in : Between → lives.Between
between_in between = record {
  lives = between.lives;
  sent = between.sent;
  host = between.host.told;
  store = between.store.told;
  hooks = between.hooks.told;
}

-- the calls that fail, of which the sends are given beside
abbrev pub failing_with : (sends : List ℕ) → Between → Failing
failing_with sends between = record {
  sends = sends;
  host = between.host.failing;
  store = between.store.failing.numbers;
  hooks = between.hooks.failing;
}

-- a life over the devices that the life before it left
abbrev pub life_over : List Managed → List IfSpec → (sends : List ℕ) → Between → LifeScript → List Line
life_over managed specs sends between life =
    life_in managed specs (failing_with sends between) (between_in between) life
