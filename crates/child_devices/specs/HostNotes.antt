-- What is told of the host's tables: their calls are noted as they are answered.
use Rattle.std.specs.Prelude.{ℕ, Bool, true, false, ◌≡◌, List, [], ◌∷◌, ◌++◌, All, length, Option, None, Some, IfSome, Result, Ok, Err}
use Rattle.std.specs.declared.io.ErrorKind.{ErrorKind}
use Rattle.world.specs.declared.faults.DeviceAnswer.{DeviceAnswer}
use Rattle.world.specs.declared.rows.HostRow.{HostRow}
use Rattle.world.specs.HostCalls as Host
use Rattle.world.specs.HostCalls.{HostCall, HostTold, host_answered}
use Rattle.world.specs.RowOrder.{in_row_order}
use Rattle.world.specs.Rows.{IsRow}
use Rattle.child_devices.specs.ChildCalls.{Start}
use Rattle.child_devices.specs.HostTables.{TablesHeld, IsChange, changed, IsMade}
use Rattle.child_devices.specs.Listings.{IsListing}
use Rattle.child_devices.specs.declared.commands.Change.{Change}
use Rattle.child_devices.specs.declared.commands.Change.TheVariants.{Add, Remove}
use Rattle.child_devices.specs.declared.processes.HostNote.{HostNote}
use Rattle.child_devices.specs.declared.processes.HostNote.TheVariants.{Listed, Added, Removed}

abbrev pub listed : Bool → List HostRow → Option (List HostRow)
listed true rows = Some rows
listed false rows = None

-- the call that is noted, over the rows as they are
abbrev pub call_noted : HostNote → List HostRow → HostCall
call_noted (Listed done) rows = Host.Listed (listed done rows)
call_noted (Added row done) rows = Host.Added row done
call_noted (Removed row done) rows = Host.Removed row done

abbrev pub noted : HostNote → TablesHeld → TablesHeld
noted note held =
    record { rows = held.rows; running = held.running; calls = held.calls ++ call_noted note held.rows ∷ [] }

-- While a child runs nothing is told.
abbrev pub told_while : (running : Option Start) → TablesHeld → Option HostTold
told_while None held = Some (record { rows = held.rows; calls = held.calls })
told_while (Some start) held = None

-- what the host's tables tell, by what the machine holds of them
abbrev pub host_told : Option TablesHeld → Option HostTold
host_told None = None
host_told (Some held) = told_while held.running held

-- one more call is told, over the rows as they are
abbrev pub answered_by : HostNote → HostTold → HostTold
answered_by note told = host_answered (call_noted note told.rows) told.rows told

-- how a change is noted, and the call that it is
abbrev pub note_of : Change → HostRow → Bool → HostNote
note_of Add row done = Added row done
note_of Remove row done = Removed row done

abbrev pub call_of : Change → HostRow → Bool → HostCall
call_of Add = Host.Added
call_of Remove = Host.Removed

-- ---- what a script makes of what is told, before that is noted

abbrev pub LeavesTold : (by : List HostRow → List HostRow) → Option ErrorKind → (old new : Option HostTold) → Type 0
LeavesTold by failure None new = new ≡ None
LeavesTold by failure (Some told) new =
    (rows : List HostRow) × IsMade by failure told.rows rows
    × (new ≡ Some (record { rows = rows; calls = told.calls }))

-- the row is changed that the script of some path was started to change
abbrev pub ChangesTold : Start → Option ErrorKind → (old new : List ℕ → Option TablesHeld) → Type 0
ChangesTold start failure old new =
    (script : List ℕ) (change : Change) (row : HostRow) → IsChange script change row start
    → LeavesTold (changed change row) failure (host_told (old script)) (host_told (new script))

-- the rows of a listing are appended, or nothing
pub record AppendsRows (text : List ℕ) (old new : List HostRow) : Type 0 where
  pub kept : List HostRow
  pub listing : IsListing text kept
  pub rows : All IsRow kept
  pub stays : in_row_order kept ≡ kept
  pub appended : new ≡ old ++ kept

abbrev pub ListsText : {T : Type 0} → (text : List ℕ) → (old new : List HostRow) → Result T DeviceAnswer → Type 0
ListsText text old new (Ok x) = AppendsRows text old new
ListsText text old new (Err answer) = new ≡ old

-- all rows are appended, in any order, each once: those that the host holds, where these are told
pub record AppendsHeld (told : Option HostTold) (old new : List HostRow) : Type 0 where
  pub listing : List HostRow
  pub appended : new ≡ old ++ listing
  pub rows : All IsRow listing
  pub once : length (in_row_order listing) ≡ length listing
  pub held : IfSome told (λ told. in_row_order listing ≡ told.rows)

abbrev pub ListsTold : {T : Type 0} → Option HostTold → (old new : List HostRow) → Result T DeviceAnswer → Type 0
ListsTold told old new (Ok x) = AppendsHeld told old new
ListsTold told old new (Err answer) = new ≡ old
