-- What a host in memory holds, and what its record of calls tells.
use Rattle.std.specs.Prelude.{ℕ, Bool, true, false, not, count_by, ◌≡◌, List, [], length, fold, All, Some, None}
use Rattle.world.specs.declared.rows.HostRow.{HostRow}
use Rattle.world.specs.RowOrder.{in_row_order, with_row, without_row}
use Rattle.world.specs.Rows.{IsRow}
use Rattle.world.specs.HostCalls.{HostCall, Listed, Added, Removed, HostTold, host_answered}
use Rattle.world_mem.specs.declared.hosts.HostEntry.{HostEntry}
use Rattle.world_mem.specs.declared.hosts.HostEntry.TheVariants.{List as Lists, Add, Remove}

pub record HostState : Type 0 where
  -- the rows held and the calls so far
  pub told : HostTold
  -- the numbers of the calls that fail, from 1
  pub failing : List ℕ

-- whether a call failed
abbrev pub host_failed : HostCall → Bool
host_failed (Listed (Some rows)) = false
host_failed (Listed None) = true
host_failed (Added row done) = not done
host_failed (Removed row done) = not done

-- how many calls failed
abbrev pub host_faults : List HostCall → ℕ
host_faults calls = count_by host_failed calls

-- what is told after one more call
abbrev pub host_step : HostTold → HostEntry → HostTold
host_step told (Lists true) = host_answered (Listed (Some told.rows)) told.rows told
host_step told (Lists false) = host_answered (Listed None) told.rows told
host_step told (Add true row) = host_answered (Added row true) (with_row row told.rows) told
host_step told (Add false row) = host_answered (Added row false) told.rows told
host_step told (Remove true row) = host_answered (Removed row true) (without_row row told.rows) told
host_step told (Remove false row) = host_answered (Removed row false) told.rows told

-- what is told after the calls of a record, from the rows held first
abbrev pub told_from : List HostRow → List HostEntry → HostTold
told_from first entries = fold host_step (record { rows = in_row_order first; calls = [] }) entries

-- what is held is what is told, of rows alone, and each call has its entry
pub record HoldsRows (told : HostTold) (held : List HostRow) (entries : List HostEntry) : Type 0 where
  pub rows : told.rows ≡ held
  pub are_rows : All IsRow held
  pub counted : length told.calls ≡ length entries
