-- What is known of the host's table, and how it comes to the wanted rows.
use Rattle.std.specs.Prelude.{ℕ, ◌≡◌, Bool, true, false, List, ◌++◌, map, reverse, Option, Some, None}
use Rattle.world.specs.declared.rows.HostRow.{HostRow}
use Rattle.settings.specs.declared.interfaces.Managed.{Managed}
use Rattle.host_tables.specs.declared.union.Diff.{Diff}
use Rattle.host_model.specs.declared.changes.HostChange.{HostChange}
use Rattle.host_model.specs.declared.changes.HostChange.TheVariants.{Remove, Add}
use Rattle.host_model.specs.HostTable.{InRowOrder}
use Rattle.host_model.specs.HostTurn.{changes, after_changes}
use Rattle.client_core.specs.Leading.{Leads}
use Rattle.device_calls.specs.Does.{Does}
use Rattle.device_calls.specs.Fronts.{HasBegun}
use Rattle.device_calls.specs.Worlds.{Seen}
use Rattle.turn_model.specs.Turns.{changing, hosting}
use Rattle.life_asks.specs.declared.tables.Table.{Table}
use Rattle.life_asks.specs.declared.tables.Table.TheVariants.{AsWanted, Unknown}
use Rattle.life_asks.specs.declared.tables.Pending.{Pending}
use Rattle.life_asks.specs.declared.tables.Pending.TheVariants as pending

abbrev pub is_known : Table → Bool
is_known AsWanted = true
is_known Unknown = false

-- the rows that are known, where these are wanted
abbrev pub known_in : Table → (wanted : List HostRow) → Option (List HostRow)
known_in AsWanted wanted = Some wanted
known_in Unknown wanted = None

-- these rows were known before others came to be wanted
abbrev pub WasKnown : Pending → (wanted : List HostRow) → (known : Option (List HostRow)) → Type 0
WasKnown (pending.Changes diff) wanted None = ⊥
WasKnown (pending.Changes diff) wanted (Some known) = InRowOrder known × Leads diff known wanted
WasKnown pending.Unknown wanted known = known ≡ None

-- removals in the reverse of the row order, then additions in row order
abbrev pub changes_by : Diff → List HostChange
changes_by diff = map Remove (reverse diff.gone.items) ++ map Add diff.come.items

-- the changes were made, whichever rows were known before them
abbrev pub MakesChanges : List HostChange → Table → (old new : Seen) → (text_old text_new : List ℕ) → Type 0
MakesChanges made table old new text_old text_new =
    (known : List HostRow)
    → Does (changing made (Some known)) (known_in table (after_changes made known)) old new text_old text_new

-- the changes from known rows to wanted ones were made, whichever these are that differ so
abbrev pub Updates : Diff → Table → (old new : Seen) → (text_old text_new : List ℕ) → Type 0
Updates diff table old new text_old text_new =
    (known wanted : List HostRow) → InRowOrder known → InRowOrder wanted → Leads diff known wanted
    → Does (changing (changes known wanted) (Some known)) (known_in table wanted) old new text_old text_new

-- the host calls of a turn were made, whichever rows were known before it
abbrev pub Hosts : List Managed → Pending → (wanted : List HostRow) → Table → (old new : Seen)
    → (text_old text_new : List ℕ) → Type 0
Hosts managed pending wanted table old new text_old text_new =
    (known : Option (List HostRow)) → WasKnown pending wanted known
    → Does (hosting managed wanted known) (known_in table wanted) old new text_old text_new

-- ---- the same where memory was wanted: these calls were begun

abbrev pub BeginsChanges : List HostChange → (old new : Seen) → Type 0
BeginsChanges made old new = (known : List HostRow) → HasBegun (changing made (Some known)) old new

abbrev pub BeginsUpdate : Diff → (old new : Seen) → Type 0
BeginsUpdate diff old new =
    (known wanted : List HostRow) → InRowOrder known → InRowOrder wanted → Leads diff known wanted
    → HasBegun (changing (changes known wanted) (Some known)) old new

abbrev pub BeginsHosts : List Managed → Pending → (wanted : List HostRow) → (old new : Seen) → Type 0
BeginsHosts managed pending wanted old new =
    (known : Option (List HostRow)) → WasKnown pending wanted known → HasBegun (hosting managed wanted known) old new
