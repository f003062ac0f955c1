-- What a host that tells what it holds makes of each call.
use Rattle.std.specs.Prelude.{ℕ, Bool, true, false, ◌≡◌, ◌+◌, ◌⊎◌, List, [], ◌∷◌, ◌++◌, length, All, Option, Some, None, Result, Ok, Err}
use Rattle.world.specs.declared.faults.DeviceAnswer.{DeviceAnswer}
use Rattle.world.specs.declared.faults.DeviceAnswer.TheVariants as Answer
use Rattle.world.specs.declared.rows.HostRow.{HostRow}
use Rattle.world.specs.RowOrder.{in_row_order, with_row, without_row}
use Rattle.world.specs.Rows.{IsRow}

-- a listing and what it gave, in row order; a row added or removed, and whether that was done
pub data HostCall : Type 0 where
  Listed : (rows : Option (List HostRow)) → HostCall
  Added : (row : HostRow) → (done : Bool) → HostCall
  Removed : (row : HostRow) → (done : Bool) → HostCall

pub record HostTold : Type 0 where
  -- what it holds, in row order
  pub rows : List HostRow
  -- the calls answered so far, those of earlier lives included
  pub calls : List HostCall

abbrev pub host_answered : HostCall → List HostRow → HostTold → HostTold
host_answered call rows told = record { rows = rows; calls = told.calls ++ call ∷ [] }

-- the number of the next call, from 1
abbrev pub host_number : Option HostTold → ℕ
host_number None = 0
host_number (Some told) = length told.calls + 1

-- where the host tells its table, that is the listing in row order
abbrev pub Shows : Option HostTold → Option HostTold → List HostRow → Type 0
Shows None new listing = new ≡ None
Shows (Some told) new listing =
    (in_row_order listing ≡ told.rows) × (new ≡ Some (host_answered (Listed (Some told.rows)) told.rows told))

-- a listing appends the rows that the host holds, in any order, each once
pub record ListsRows (told_old told_new : Option HostTold) (old new : List HostRow) : Type 0 where
  pub listing : List HostRow
  pub appended : new ≡ old ++ listing
  pub rows : All IsRow listing
  pub once : length (in_row_order listing) ≡ length listing
  pub told : Shows told_old told_new listing

-- a listing that failed changes nothing but the list of calls
abbrev pub ListsNone : Option HostTold → Option HostTold → DeviceAnswer → Type 0
ListsNone None new answer = new ≡ None
ListsNone (Some told) new Answer.Failed = new ≡ Some (host_answered (Listed None) told.rows told)
ListsNone (Some told) new Answer.NoMemory = new ≡ Some told

abbrev pub Lists : {T : Type 0} → Option HostTold → Option HostTold → List HostRow → List HostRow
    → Result T DeviceAnswer → Type 0
Lists told_old told_new old new (Ok x) = ListsRows told_old told_new old new
Lists told_old told_new old new (Err answer) = (new ≡ old) × ListsNone told_old told_new answer

-- A failed change left the table as it was or changed; where it is told which calls fail, as it was.
abbrev pub FailedChange : Option (List ℕ) → HostCall → List HostRow → HostTold → Option HostTold → Type 0
FailedChange None call changed told new =
    (new ≡ Some (host_answered call told.rows told)) ⊎ (new ≡ Some (host_answered call changed told))
FailedChange (Some failing) call changed told new = new ≡ Some (host_answered call told.rows told)

-- a change to the rows, and the call that asked for it
abbrev pub Changes : {T : Type 0} → Option (List ℕ) → (List HostRow → List HostRow) → (Bool → HostCall)
    → Option HostTold → Option HostTold → Result T DeviceAnswer → Type 0
Changes failing change call None new result = new ≡ None
Changes failing change call (Some told) new (Ok x) = new ≡ Some (host_answered (call true) (change told.rows) told)
Changes failing change call (Some told) new (Err Answer.Failed) =
    FailedChange failing (call false) (change told.rows) told new
Changes failing change call (Some told) new (Err Answer.NoMemory) = new ≡ Some told

-- Adding a row that is there changes nothing.
abbrev pub Adds : {T : Type 0} → Option (List ℕ) → HostRow → Option HostTold → Option HostTold → Result T DeviceAnswer
    → Type 0
Adds failing row = Changes failing (with_row row) (Added row)

-- Removing a row that isn't there changes nothing.
abbrev pub Removes : {T : Type 0} → Option (List ℕ) → HostRow → Option HostTold → Option HostTold
    → Result T DeviceAnswer → Type 0
Removes failing row = Changes failing (without_row row) (Removed row)
