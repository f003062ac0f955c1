-- The room and the steps that a change takes: they grow with the rows of the place that changes, and not with all.
use Rattle.std.specs.Prelude.{ℕ, ◌≡◌, ◌<◌, ◌≤◌, ◌+◌, ◌*◌, ◌^◌, List, [], length, slice_index_or, slice_set, vec_len}
use Rattle.std.specs.Global.{Vec}
use Rattle.std.specs.Vec.{vec_capacity}
use Rattle.world.specs.declared.rows.HostRow.{HostRow}
use Rattle.host_model.specs.Precedence.{all_rows}
use Rattle.host_tables.specs.declared.union.Room.{Room}
use Rattle.host_tables.specs.declared.union.Union.{Union}

-- so many more find room
abbrev pub HasRoom : {K : Type 0} → ℕ → Vec K → Type 0
HasRoom more all = vec_len all + more ≤ vec_capacity all

abbrev pub IsEmpty : {K : Type 0} → Vec K → Type 0
IsEmpty all = all.items ≡ []

-- all that a change from these rows to those finds and adds has room
pub record RoomFor (before after : List HostRow) (room : Room) (union : Union) : Type 0 where
  pub stood : IsEmpty room.stood × HasRoom (length before + length after) room.stood
  pub stand : IsEmpty room.stand × HasRoom (length before + length after) room.stand
  pub gone : HasRoom (length before + length after) room.gone
  pub come : HasRoom (length before + length after) room.come
  pub brought : HasRoom (length after) union.brought
  pub wanted : HasRoom (length before + length after) union.wanted

-- d halvings find each of the rows that stand, before a change from these rows to those and after it
pub record AreFew (d : ℕ) (before after : List HostRow) (old new : Union) : Type 0 where
  pub brought : vec_len old.brought < 2 ^ d
  pub brings : vec_len new.brought < 2 ^ d
  pub wanted : vec_len old.wanted < 2 ^ d
  pub wants : vec_len new.wanted < 2 ^ d
  pub changed : length before + length after < 2 ^ (d + 1)

-- the most steps for a change of so many rows, where the number of all that stand has d binary digits
abbrev pub most_steps : (rows d : ℕ) → ℕ
most_steps rows d = 8 * (rows + 1) * (d + 1)

-- the number of rows that the place brings before, and of those that it brings now
abbrev pub rows_exchanged : (places : List (List HostRow)) → (place : ℕ) → (rows : List HostRow) → ℕ
rows_exchanged places place rows = length (slice_index_or places place []) + length rows

-- no more than d binary digits have the number of rows that all places bring before, and that of those that they bring
-- now
pub record HaveDigits (d : ℕ) (places : List (List HostRow)) (place : ℕ) (rows : List HostRow) : Type 0 where
  pub before : length (all_rows places) < 2 ^ d
  pub now : length (all_rows (slice_set places place rows)) < 2 ^ d
