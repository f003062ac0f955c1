-- Which of the rows that interfaces give are kept.
use Rattle.std.specs.Prelude.{◌≡◌, true, false, List, flat_map}
use Rattle.world.specs.declared.rows.HostRow.{HostRow}
use Rattle.world.specs.declared.rows.HostRow.TheVariants.{Addr}
use Rattle.world.specs.RowOrder.{has_row}
use Rattle.net_types.specs.declared.address.Net.{Net}
use Rattle.net_types.specs.declared.interface.IfIndex.{IfIndex}
use Rattle.client_model.specs.declared.interfaces.Iface.{Iface}
use Rattle.host_model.specs.Precedence.{same_target, outranks}
use Rattle.client_model.specs.WantedRows.{iface_rows, wanted_rows}

abbrev pub given_rows : List Iface → List HostRow
given_rows ifaces = flat_map iface_rows ifaces

-- No two routes that are kept have one destination, length and metric.
abbrev pub KeptUnlike : Type 0
KeptUnlike =
    (ifaces : List Iface) (a b : HostRow) → has_row (wanted_rows ifaces) a ≡ true
    → has_row (wanted_rows ifaces) b ≡ true
    → same_target a b ≡ true → a ≡ b

-- a row that is kept in place of another
pub record Keeper (ifaces : List Iface) (row : HostRow) : Type 0 where
  pub keeper : HostRow
  pub kept : has_row (wanted_rows ifaces) keeper ≡ true
  pub outranks : outranks keeper row ≡ true

-- Each row that some interface gives and that isn't kept has one that is kept in its place.
abbrev pub DroppedHaveKeeper : Type 0
DroppedHaveKeeper =
    (ifaces : List Iface) (row : HostRow) → has_row (given_rows ifaces) row ≡ true
    → has_row (wanted_rows ifaces) row ≡ false
    → Keeper ifaces row

-- Every address stays.
abbrev pub AddressesStay : Type 0
AddressesStay =
    (ifaces : List Iface) (index : IfIndex) (net : Net)
    → has_row (wanted_rows ifaces) (Addr index net) ≡ has_row (given_rows ifaces) (Addr index net)
