-- What a turn makes of a host that tells its rows and which of its calls fail.
use Rattle.std.specs.Prelude.{◌≡◌, ℕ, List}
use Rattle.world.specs.declared.rows.HostRow.{HostRow}
use Rattle.settings.specs.declared.interfaces.Managed.{Managed}
use Rattle.host_model.specs.HostTable.{Wantable, managed_rows, other_rows, Table, TrueTable, table_turned, NoneFails, AllPast}

-- of every table that is truly known, and all rows that can be wanted
abbrev pub OfTrueTables : (List Managed → List ℕ → List HostRow → Table → Type 0) → Type 0
OfTrueTables Fact = (managed : List Managed) (failing : List ℕ) (wanted : List HostRow) (table : Table)
    → Wantable managed wanted → TrueTable managed table → Fact managed failing wanted table

-- what is known stays true
abbrev pub StaysTrue : List Managed → List ℕ → List HostRow → Table → Type 0
StaysTrue managed failing wanted table = TrueTable managed (table_turned managed failing wanted table)

-- rows of interfaces that aren't managed stay, whatever fails
abbrev pub OthersStay : List Managed → List ℕ → List HostRow → Table → Type 0
OthersStay managed failing wanted table =
    other_rows managed (table_turned managed failing wanted table).told.rows ≡ other_rows managed table.told.rows

-- where no call fails, the host has exactly the wanted rows on managed interfaces
abbrev pub IsReached : List Managed → List ℕ → List HostRow → Table → Type 0
IsReached managed failing wanted table =
    NoneFails managed failing wanted table
    → managed_rows managed (table_turned managed failing wanted table).told.rows ≡ wanted

-- no call fails once those that fail are past
abbrev pub Recovers : Type 0
Recovers = (managed : List Managed) (failing : List ℕ) (wanted : List HostRow) (table : Table)
    → AllPast failing table.told → NoneFails managed failing wanted table
