-- What the host holds in a life: the wanted rows, and no address without its basis.
use Rattle.std.specs.Prelude.{◌≡◌, ◌+◌, ◌<◌, false, List, [], ◌∷◌, ◌++◌, length, take}
use Rattle.std.specs.List.{AllByRecursion}
use Rattle.net_types.specs.declared.interface.IfSpec.{IfSpec}
use Rattle.world.specs.LinkCalls.{Given}
use Rattle.settings.specs.declared.interfaces.Managed.{Managed}
use Rattle.turn_model.specs.ClientModel.Clients.{rows_of}
use Rattle.script_model.specs.ScriptTexts.{LifeScript}
use Rattle.host_model.specs.HostTable.{NoneFails, Table, unknown_table}
use Rattle.device_calls.specs.Worlds.{World}
use Rattle.turn_model.specs.Foretold.{opening_of, foretold_life}
use Rattle.turn_model.specs.HostInLife.{Running, running_opened, running_turned, life_run, table_of, HoldsUnlessFailed}
use Rattle.text_works.specs.Evidence.HeldAddresses.{RestOnEvidence, WantsStaticAlone, WantsStaticOrKept}
use Rattle.replayed_lives.specs.Replays.{Failing, Between, world_in, after_life}

-- No host call failed between two tables.
abbrev pub GoesWell : (before : Table) → (after : Running) → List Managed → World → Type 0
GoesWell before after managed world = NoneFails managed world.host.failing (rows_of after.life.client) before

-- a turn that the life handles, after others of it and before those to come
pub record IsTurn (managed : List Managed) (specs : List IfSpec) (world : World) (earlier : List Given) (given : Given)
    (coming : List Given) : Type 0 where
  pub stands : world.link.told.coming ≡ earlier ++ given ∷ coming
  pub handled : length earlier < length (foretold_life managed specs world).mets

-- a life over these devices after a turn that comes after others
abbrev pub lived_on : List Managed → List IfSpec → World → List Given → Given → Running
lived_on managed specs world earlier given = running_turned managed (life_run managed specs world earlier) given

-- A life over devices that tell what they hold. After the opening, and after each turn, in which no host call failed,
-- the host has exactly the wanted rows on managed interfaces, and on all others those with which the life began; and
-- each address that it holds on a managed interface has its basis in the turns of this life up to then. At the opening
-- the client wants static addresses, and those of kept leases that are asked for again; static ones alone where no
-- interface has `persistent`.
pub record HoldsRightly (managed : List Managed) (specs : List IfSpec) (world : World) : Type 0 where
  pub opening_holds : HoldsUnlessFailed managed world.host.failing world.host.told.rows (unknown_table world.host.told)
      (running_opened managed specs world)
  pub turns_hold : (earlier : List Given) (given : Given)
      → HoldsUnlessFailed managed world.host.failing world.host.told.rows
      (table_of (life_run managed specs world earlier)) (lived_on managed specs world earlier given)
  pub opening_starts : WantsStaticOrKept managed specs (opening_of managed specs world)
  pub plain_starts : AllByRecursion (λ (m : Managed). m.conf.flags.persistent ≡ false) managed
      → WantsStaticAlone managed specs (opening_of managed specs world)
  pub opening_rests : GoesWell (unknown_table world.host.told) (running_opened managed specs world) managed world
      → RestOnEvidence managed specs (opening_of managed specs world) []
      (running_opened managed specs world).world.host.told.rows
  pub turns_rest : (earlier : List Given) (given : Given) (coming : List Given)
      → IsTurn managed specs world earlier given coming
      → GoesWell (table_of (life_run managed specs world earlier))
      (lived_on managed specs world earlier given) managed world
      → RestOnEvidence managed specs (opening_of managed specs world)
      (take (length earlier + 1) (foretold_life managed specs world).mets)
      (lived_on managed specs world earlier given).world.host.told.rows

-- so it is in each life of a script, over the devices that the life before left
abbrev pub AllHoldRightly : List Managed → List IfSpec → Failing → Between → List LifeScript → Type 0
AllHoldRightly managed specs failing between [] = Unit {0}
AllHoldRightly managed specs failing between (life ∷ lives) =
    HoldsRightly managed specs (world_in failing between life)
    × AllHoldRightly managed specs failing (after_life managed specs failing between life) lives
