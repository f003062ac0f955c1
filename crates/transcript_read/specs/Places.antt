-- Where in the body of a transcript a line stands, and which lines may come there.
use Rattle.std.specs.Prelude.{ℕ, ◌+◌, ◌-◌, ◌^◌, Bool, true, ◌&&◌, ◌==◌, nat_le, nat_lt, List, [], ◌∷◌, ◌++◌, Option, Some, None, if◌then◌else◌}
use Rattle.std.specs.Ordering.{is_lt}
use Rattle.net_types.specs.declared.address.Net.TheVariants.{V6}
use Rattle.net_types.specs.declared.interface.IfSpec.{IfSpec}
use Rattle.net_types.specs.Cutting.{◌>>=◌}
use Rattle.world.specs.declared.rows.HostRow.{HostRow}
use Rattle.world.specs.declared.rows.HostRow.TheVariants.{Route}
use Rattle.world.specs.declared.rows.Via.TheVariants.{Gate6}
use Rattle.world.specs.RowOrder.{row_cmp}
use Rattle.script_model.specs.Lines.{Line}
use Rattle.replay_text.specs.NextLines.{fits_next}
use Rattle.transcript_lines.specs.declared.role.Role.{Role}
use Rattle.transcript_lines.specs.declared.role.Role.TheVariants as roles
use Rattle.transcript_lines.specs.Roles.{role_of}
use Rattle.transcript_model.specs.LifeShapes.{comes_after}
use Rattle.transcript_read.specs.declared.place.Place.{Place}
use Rattle.transcript_read.specs.declared.place.Place.TheVariants as places
use Rattle.transcript_read.specs.declared.place.Within.{Within}

-- of all rows that a host can hold the one with so many above it
unfoldable pub top_row : ℕ → HostRow
top_row above =
    Route (record { number = 64 }) (V6 (record { ip = record { number = 2 ^ 128 - 1 }; len = 128 }))
    (Gate6 (record { number = 2 ^ 128 - 1 - above })) (2 ^ 32 - 1)

-- so many rows can come after this one
abbrev pub leaves_room : ℕ → HostRow → Bool
leaves_room left row = if left == 0 then true else is_lt (row_cmp row (top_row (left - 1)))

abbrev pub row_next : Within → HostRow → Option Within
row_next within row =
    if (nat_lt 0 within.left && comes_after within.last row) && leaves_room (within.left - 1) row
    then Some (record within { left = within.left - 1; last = Some row })
    else None

-- after a line with which the life goes on
abbrev pub next_within : Within → Role → Option Within
next_within within (roles.Row row) = row_next within row
next_within within (roles.Turn at) =
    if (within.left == 0) && nat_le within.now at then Some (record within { now = at }) else None
next_within within (roles.Listing count) =
    if within.left == 0 then Some (record within { left = count; last = None }) else None
next_within within roles.Other = if within.left == 0 then Some within else None
next_within within _ = None

abbrev pub ended : Within → Role → Option Place
ended within roles.End = if within.left == 0 then Some (places.Between within.number) else None
ended within _ = None

abbrev pub goes_on : Option Within → Option Place → Option Place
goes_on (Some within) other = Some (places.Within within)
goes_on None other = other

abbrev pub first_life : Role → Option Place
first_life (roles.Interface spec) = Some places.Interfaces
first_life (roles.Life number) = if number == 1 then Some (places.Numbered 1) else None
first_life _ = None

abbrev pub next_life : ℕ → Role → Option Place
next_life lives (roles.Life number) = if number == lives + 1 then Some (places.Numbered number) else None
next_life lives _ = None

abbrev pub life_start : ℕ → Role → Option Place
life_start number (roles.Start at) = Some (places.Within (record { number = number; now = at; left = 0; last = None }))
life_start number _ = None

abbrev pub next_place : Place → Role → Option Place
next_place places.Interfaces role = first_life role
next_place (places.Between lives) role = next_life lives role
next_place (places.Numbered number) role = life_start number role
next_place (places.Within within) role = goes_on (next_within within role) (ended within role)

abbrev pub next_ifaces : List IfSpec → Role → Option (List IfSpec)
next_ifaces ifaces (roles.Interface spec) = if fits_next ifaces spec then Some (ifaces ++ spec ∷ []) else None
next_ifaces ifaces _ = Some ifaces

-- the interfaces so far, and where the next line stands
pub record Spot : Type 0 where
  pub ifaces : List IfSpec
  pub place : Place

abbrev pub next_spot : Spot → Line → Option Spot
next_spot spot line = do
  place ← next_place spot.place (role_of line)
  ifaces ← next_ifaces spot.ifaces (role_of line)
  Some (record { ifaces = ifaces; place = place })

abbrev pub first_spot : Spot
first_spot = record { ifaces = []; place = places.Interfaces }

-- all lines, one after another
abbrev pub walk : List Line → Spot → Option Spot
walk [] spot = Some spot
walk (line ∷ lines) spot = next_spot spot line >>= walk lines
