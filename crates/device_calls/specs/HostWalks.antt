-- What a host tells after calls that were answered so, one after another, whether or not it is told which of them fail.
use Rattle.std.specs.Prelude.{◌≡◌, ◌⊎◌, true, false, List, [], ◌∷◌, Option, Some, None}
use Rattle.world.specs.declared.rows.HostRow.{HostRow}
use Rattle.world.specs.RowOrder.{with_row, without_row}
use Rattle.world.specs.HostCalls.{HostCall, Listed, Added, Removed, HostTold, host_answered}

-- A listing that didn't fail gives the rows as they stand. A change that was done changed its row alone, and one that
-- failed did so or changed nothing.
abbrev pub LeavesRows : HostCall → (old new : List HostRow) → Type 0
LeavesRows (Listed None) old new = new ≡ old
LeavesRows (Listed (Some rows)) old new = (rows ≡ old) × (new ≡ old)
LeavesRows (Added row true) old new = new ≡ with_row row old
LeavesRows (Added row false) old new = (new ≡ old) ⊎ (new ≡ with_row row old)
LeavesRows (Removed row true) old new = new ≡ without_row row old
LeavesRows (Removed row false) old new = (new ≡ old) ⊎ (new ≡ without_row row old)

abbrev pub HostGoes : List HostCall → (old new : HostTold) → Type 0
HostGoes [] old new = new ≡ old
HostGoes (call ∷ calls) old new =
    (rows : List HostRow) × LeavesRows call old.rows rows × HostGoes calls (host_answered call rows old) new

abbrev pub HostAnswered : List HostCall → (old new : Option HostTold) → Type 0
HostAnswered calls None new = new ≡ None
HostAnswered calls (Some old) new = (told : HostTold) × (new ≡ Some told) × HostGoes calls old told
