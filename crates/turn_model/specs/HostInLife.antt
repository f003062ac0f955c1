-- The host in a life over devices that tell what they hold and which of their calls fail.
use Rattle.std.specs.Prelude.{◌≡◌, ℕ, List, [], ◌∷◌}
use Rattle.net_types.specs.declared.interface.IfSpec.{IfSpec}
use Rattle.world.specs.declared.rows.HostRow.{HostRow}
use Rattle.world.specs.LinkCalls.{Given}
use Rattle.client_model.specs.IfaceSettings.declared.interfaces.Managed.{Managed}
use Rattle.client_model.specs.IfaceSettings.ManagedRows.{SharesAreManaged}
use Rattle.client_model.specs.Clients.{rows_of}
use Rattle.client_model.specs.HostModel.HostTable.{Table, NoneFails, Holds, InRowOrder, other_rows, unknown_table}
use Rattle.device_calls.specs.Worlds.{World}
use Rattle.turn_model.specs.Turns.{Life}
use Rattle.turn_model.specs.Foretold.{ran_opening, ran_turn}

-- a life between two turns, and what its devices tell then
pub record Running : Type 0 where
  pub life : Life
  pub world : World

abbrev pub running_opened : List Managed → List IfSpec → World → Running
running_opened managed specs world =
    record { life = (ran_opening managed specs world).result; world = (ran_opening managed specs world).world }

abbrev pub running_turned : List Managed → Running → Given → Running
running_turned managed running given =
    record {
      life = (ran_turn managed running.life running.world given).result;
      world = (ran_turn managed running.life running.world given).world;
    }

abbrev pub running_after : List Managed → List Given → Running → Running
running_after managed [] running = running
running_after managed (given ∷ coming) running = running_after managed coming (running_turned managed running given)

-- a life after its opening and some turns
abbrev pub life_run : List Managed → List IfSpec → World → List Given → Running
life_run managed specs world turns = running_after managed turns (running_opened managed specs world)

abbrev pub table_of : Running → Table
table_of running = record { known = running.life.known; told = running.world.host.told }

-- Where no host call failed between two tables, the host has exactly what the client then wants on managed interfaces,
-- and on all others the rows of the beginning.
abbrev pub HoldsUnlessFailed : List Managed → (failing : List ℕ) → (first : List HostRow) → (before : Table)
    → (after : Running) → Type 0
HoldsUnlessFailed managed failing first before after =
    NoneFails managed failing (rows_of after.life.client) before
    → Holds managed (rows_of after.life.client) first after.world.host.told.rows

-- so after the opening, from any host,
abbrev pub OpeningHoldsWanted : Type 0
OpeningHoldsWanted =
    (managed : List Managed) (specs : List IfSpec) (world : World) → SharesAreManaged managed
    → InRowOrder world.host.told.rows
    → HoldsUnlessFailed managed world.host.failing world.host.told.rows (unknown_table world.host.told)
    (running_opened managed specs world)

-- and after every turn
abbrev pub TurnsHoldWanted : Type 0
TurnsHoldWanted =
    (managed : List Managed) (specs : List IfSpec) (world : World) (earlier : List Given) (given : Given)
    → SharesAreManaged managed → InRowOrder world.host.told.rows
    → let before = life_run managed specs world earlier in
    HoldsUnlessFailed managed world.host.failing world.host.told.rows (table_of before)
    (running_turned managed before given)

-- The rows of others stay, whatever fails.
abbrev pub OthersStay : Type 0
OthersStay =
    (managed : List Managed) (specs : List IfSpec) (world : World) (turns : List Given) → SharesAreManaged managed
    → InRowOrder world.host.told.rows
    → other_rows managed (life_run managed specs world turns).world.host.told.rows
    ≡ other_rows managed world.host.told.rows
