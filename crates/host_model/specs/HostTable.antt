-- What a host that tells its rows and which calls fail holds after a turn, given the rows that are wanted in it.
use Rattle.std.specs.Prelude.{ℕ, ◌≡◌, ◌≤◌, Bool, true, false, not, List, length, filter, All, Option, Some, None}
use Rattle.std.specs.List.{AllPass}
use Rattle.std.specs.List.Sorted.{IsStrictlySortedBy}
use Rattle.world.specs.declared.rows.HostRow.{HostRow}
use Rattle.world.specs.RowOrder.{row_cmp}
use Rattle.world.specs.HostCalls.{HostCall, Listed, Added, Removed, HostTold}
use Rattle.settings.specs.declared.interfaces.Managed.{Managed}
use Rattle.settings.specs.ManagedRows.{is_managed}
use Rattle.host_model.specs.HostTurn.{HostMet, host_calls, known_after}
use Rattle.host_model.specs.ToldHost.{told_host}

-- in row order, each once
abbrev pub InRowOrder : List HostRow → Type 0
InRowOrder rows = IsStrictlySortedBy row_cmp rows

-- the rows of managed interfaces
abbrev pub managed_rows : List Managed → List HostRow → List HostRow
managed_rows managed rows = filter (is_managed managed) rows

-- the rows of all other interfaces
abbrev pub other_rows : List Managed → List HostRow → List HostRow
other_rows managed rows = filter (λ row. not (is_managed managed row)) rows

-- rows that can be wanted: in row order, each once, all on managed interfaces
pub record Wantable (managed : List Managed) (wanted : List HostRow) : Type 0 where
  pub in_order : InRowOrder wanted
  pub on_managed : AllPass (is_managed managed) wanted

-- what is known of the host's rows: nothing, or exactly those of managed interfaces
abbrev pub KnownTruly : List Managed → Option (List HostRow) → List HostRow → Type 0
KnownTruly managed None rows = Unit {0}
KnownTruly managed (Some known) rows = known ≡ managed_rows managed rows

-- a host, and what the client knows of its rows
pub record Table : Type 0 where
  pub known : Option (List HostRow)
  pub told : HostTold

pub record TrueTable (managed : List Managed) (table : Table) : Type 0 where
  pub in_order : InRowOrder table.told.rows
  pub known : KnownTruly managed table.known table.told.rows

-- what the host answers in a turn
abbrev pub table_met : List Managed → List ℕ → List HostRow → Table → HostMet
table_met managed failing wanted table = (told_host managed failing table.known wanted table.told).answer

-- the table after a turn
abbrev pub table_turned : List Managed → List ℕ → List HostRow → Table → Table
table_turned managed failing wanted table = record {
  known = known_after managed table.known wanted (table_met managed failing wanted table);
  told = (told_host managed failing table.known wanted table.told).told;
}

-- the table of a client that begins: nothing is known
abbrev pub unknown_table : HostTold → Table
unknown_table told = record { known = None; told = told }

-- whether a host call was done
abbrev pub is_done : HostCall → Bool
is_done (Listed None) = false
is_done (Listed (Some rows)) = true
is_done (Added row done) = done
is_done (Removed row done) = done

-- no host call of the turn fails
abbrev pub NoneFails : List Managed → List ℕ → List HostRow → Table → Type 0
NoneFails managed failing wanted table =
    AllPass is_done (host_calls managed table.known wanted (table_met managed failing wanted table))

-- the calls that fail are past
abbrev pub AllPast : List ℕ → HostTold → Type 0
AllPast failing told = All (λ number. number ≤ length told.calls) failing

-- exactly the wanted rows on managed interfaces, and on all others the rows of before
pub record Holds (managed : List Managed) (wanted before rows : List HostRow) : Type 0 where
  pub as_wanted : managed_rows managed rows ≡ wanted
  pub others_stay : other_rows managed rows ≡ other_rows managed before
