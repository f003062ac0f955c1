-- What the store holds in a life: the DUID, each lease that is kept, in the file of its interface, and what the
-- resolver is told.
use Rattle.std.specs.Prelude.{List, [], ◌∷◌}
use Rattle.net_types.specs.declared.interface.IfSpec.{IfSpec}
use Rattle.world.specs.LinkCalls.{Given}
use Rattle.settings.specs.declared.interfaces.Managed.{Managed}
use Rattle.script_model.specs.ScriptTexts.{LifeScript}
use Rattle.device_calls.specs.Worlds.{World}
use Rattle.turn_model.specs.FilesInLife.{KeepsFiles}
use Rattle.daemon.specs.FileEvidence.WholeFiles.{LivesWhole}
use Rattle.turn_model.specs.Foretold.{ran_opening, ran_turn}
use Rattle.turn_model.specs.HostInLife.{running_opened, life_run}
use Rattle.replayed_lives.specs.HostHeld.{lived_on}
use Rattle.replayed_lives.specs.Replays.{Failing, Between, world_in, after_life}

-- A life over devices that tell what they hold. After the opening and after each turn, whatever fails, what is known of
-- a file is so; and where no call that was to change files failed in it, each file is the text of what is kept in it.
pub record KeepsRightly (managed : List Managed) (specs : List IfSpec) (world : World) : Type 0 where
  pub opening_keeps : KeepsFiles managed (ran_opening managed specs world).calls (running_opened managed specs world)
  pub turns_keep : (earlier : List Given) (given : Given)
      → let before = life_run managed specs world earlier in
      KeepsFiles managed (ran_turn managed before.life before.world given).calls
      (lived_on managed specs world earlier given)

-- so it is in each life of a script, over the store that the life before left
abbrev pub AllKeepRightly : List Managed → List IfSpec → Failing → Between → List LifeScript → Type 0
AllKeepRightly managed specs failing between [] = Unit {0}
AllKeepRightly managed specs failing between (life ∷ lives) =
    KeepsRightly managed specs (world_in failing between life)
    × AllKeepRightly managed specs failing (after_life managed specs failing between life) lives

-- In each life of a script, whatever those before it and their crashes left, the files are whole at each moment: a
-- crash leaves of each one of its choices since that life's entry. The store is sound throughout.
abbrev pub AllStayWhole : List Managed → List IfSpec → Failing → Between → List LifeScript → Type 0
AllStayWhole managed specs failing between [] = Unit {0}
AllStayWhole managed specs failing between (life ∷ lives) =
    LivesWhole managed specs (world_in failing between life)
    × AllStayWhole managed specs failing (after_life managed specs failing between life) lives
