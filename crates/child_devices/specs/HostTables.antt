-- What a machine holds of the tables that a script lists and changes, where it tells that, and what each call of the
-- system on its children makes of them. The script's first word says what it is to do: `host-list` prints all rows;
-- `host-add` and `host-del` are followed by the words of a row.
use Rattle.std.specs.Prelude.{ℕ, pos, ◌<◌, ◌^◌, ◌≡◌, ◌⊎◌, List, [], ◌∷◌, All, codes, Option, None, Some, Result, Ok, Err}
use Rattle.std.specs.Process.{exit_code}
use Rattle.std.specs.declared.io.ErrorKind.{ErrorKind}
use Rattle.std.specs.declared.process.status.ExitStatus.{ExitStatus}
use Rattle.net_types.specs.declared.address.Net.{Net}
use Rattle.net_types.specs.declared.address.Net.TheVariants as Family
use Rattle.world.specs.declared.rows.HostRow.{HostRow}
use Rattle.world.specs.declared.rows.HostRow.TheVariants.{Addr, Route}
use Rattle.world.specs.declared.rows.Via.{Via}
use Rattle.world.specs.declared.rows.Via.TheVariants as Ways
use Rattle.world.specs.HostCalls.{HostCall}
use Rattle.world.specs.RowOrder.{with_row, without_row}
use Rattle.world.specs.RowText.{row_text}
use Rattle.world.specs.Rows.{IsRow}
use Rattle.child_devices.specs.ChildCalls.{ChildCall, Started, Asked, Killed, Waited, Printed, Start, Printing}
use Rattle.child_devices.specs.HostScripts.{RunsScript, EndsAs, change_word, words_of}
use Rattle.child_devices.specs.Listings.{IsListing}
use Rattle.child_devices.specs.declared.commands.Change.{Change}
use Rattle.child_devices.specs.declared.commands.Change.TheVariants.{Add, Remove}

-- the tables behind the script of one path
pub record TablesHeld : Type 0 where
  -- the rows, in row order, as the children that have ended left them
  pub rows : List HostRow
  -- what the child was started with that hasn't ended yet, as far as calls told
  pub running : Option Start
  -- the calls of the host's tables so far, as they were noted
  pub calls : List HostCall

-- the numbers of a row are within their types
abbrev pub FitsNetTypes : Net → Type 0
FitsNetTypes (Family.V4 net) = (net.ip.number < 2 ^ 32) × (net.len < 2 ^ 8)
FitsNetTypes (Family.V6 net) = (net.ip.number < 2 ^ 128) × (net.len < 2 ^ 8)

abbrev pub FitsWayTypes : Via → Type 0
FitsWayTypes Ways.OnLink = Unit {0}
FitsWayTypes Ways.Reject = Unit {0}
FitsWayTypes (Ways.Gate4 gate) = gate.number < 2 ^ 32
FitsWayTypes (Ways.Gate6 gate) = gate.number < 2 ^ 128

abbrev pub FitsRowTypes : HostRow → Type 0
FitsRowTypes (Addr iface net) = (iface.number < 2 ^ 32) × FitsNetTypes net
FitsRowTypes (Route iface dest way metric) =
    (iface.number < 2 ^ 32) × FitsNetTypes dest × FitsWayTypes way × (metric < 2 ^ 32)

-- the script is started to change a row
abbrev pub IsChange : (script : List ℕ) → Change → HostRow → Start → Type 0
IsChange script change row start =
    FitsRowTypes row × RunsScript script (change_word change ∷ words_of (row_text row)) start

-- the rows after a change
abbrev pub changed : Change → HostRow → List HostRow → List HostRow
changed Add = with_row
changed Remove = without_row

-- A change that failed was made or not.
abbrev pub IsMade : (by : List HostRow → List HostRow) → Option ErrorKind → (old new : List HostRow) → Type 0
IsMade by None old new = new ≡ by old
IsMade by (Some failure) old new = (new ≡ old) ⊎ (new ≡ by old)

-- the rows that a child leaves which ended so
pub record LeavesRows (script : List ℕ) (start : Start) (end : Result ExitStatus ErrorKind) (old new : List HostRow)
    : Type 0 where
  -- The row is changed that it was started to change.
  pub changes : (change : Change) (row : HostRow) (failure : Option ErrorKind) → IsChange script change row start
      → EndsAs end failure → IsMade (changed change row) failure old new
  -- Where it was started for something else nothing changes.
  pub keeps : ((change : Change) (row : HostRow) → ¬ (IsChange script change row start)) → new ≡ old

-- A listing has a line for each row, in any order, where the script ended with status 0.
abbrev pub ListsHeld : (script : List ℕ) → Start → Result Printing ErrorKind → List HostRow → Type 0
ListsHeld script start (Ok printing) rows =
    RunsScript script (codes "host-list" ∷ []) start → exit_code printing.status ≡ Some (pos 0)
    → IsListing printing.text rows × All IsRow rows
ListsHeld script start (Err kind) rows = Unit {0}

-- Where no child runs none ends.
abbrev pub Ends : (script : List ℕ) → (running : Option Start) → Result ExitStatus ErrorKind → (old : TablesHeld)
    → (new : Option TablesHeld) → Type 0
Ends script None end old new = new ≡ Some old
Ends script (Some start) end old new =
    (rows : List HostRow) × LeavesRows script start end old.rows rows
    × (new ≡ Some (record { rows = rows; running = None; calls = old.calls }))

-- Where two children run at once nothing is told any longer.
abbrev pub Begins : Start → (running : Option Start) → (old : TablesHeld) → (new : Option TablesHeld) → Type 0
Begins start None old new = new ≡ Some (record { rows = old.rows; running = Some start; calls = old.calls })
Begins start (Some other) old new = new ≡ None

abbrev pub end_of : Result Printing ErrorKind → Result ExitStatus ErrorKind
end_of (Ok printing) = Ok printing.status
end_of (Err kind) = Err kind

abbrev pub Prints : (script : List ℕ) → Start → Result Printing ErrorKind → (running : Option Start)
    → (old : TablesHeld) → (new : Option TablesHeld) → Type 0
Prints script start answer None old new =
    (rows : List HostRow) × LeavesRows script start (end_of answer) old.rows rows × ListsHeld script start answer rows
    × (new ≡ Some (record { rows = rows; running = None; calls = old.calls }))
Prints script start answer (Some other) old new = new ≡ None

-- A child that was started runs until it is asked or waited for and has ended, or can't be waited for.
abbrev pub Makes : (script : List ℕ) → ChildCall → (old : TablesHeld) → (new : Option TablesHeld) → Type 0
Makes script (Started start None) old new = Begins start old.running old new
Makes script (Started start (Some kind)) old new = new ≡ Some old
Makes script (Asked (Ok (Some status))) old new = Ends script old.running (Ok status) old new
Makes script (Asked (Ok None)) old new = new ≡ Some old
Makes script (Asked (Err kind)) old new = new ≡ Some old
Makes script (Killed failure) old new = new ≡ Some old
Makes script (Waited answer) old new = Ends script old.running answer old new
Makes script (Printed start answer) old new = Prints script start answer old.running old new

-- Where nothing is told before, nothing is told afterwards.
abbrev pub Holds : (script : List ℕ) → ChildCall → (old new : Option TablesHeld) → Type 0
Holds script call None new = new ≡ None
Holds script call (Some old) new = Makes script call old new

-- what a call makes of the tables behind each script, each by its path
abbrev pub Tells : ChildCall → (old new : List ℕ → Option TablesHeld) → Type 0
Tells call old new = (script : List ℕ) → Holds script call (old script) (new script)
