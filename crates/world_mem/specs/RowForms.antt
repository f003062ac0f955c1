-- The row that a form keeps.
use Rattle.net_types.specs.declared.address.Net.TheVariants.{V4}
use Rattle.world.specs.declared.rows.HostRow.{HostRow}
use Rattle.world.specs.declared.rows.HostRow.TheVariants.{Addr, Route}
use Rattle.world.specs.declared.rows.Via.TheVariants as via
use Rattle.world_mem.specs.declared.small_rows.RowForm.{RowForm}
use Rattle.world_mem.specs.declared.small_rows.RowForm.TheVariants.{Addr4, OnLink4, Reject4, Gate4, Other}

abbrev pub row_of : RowForm → HostRow
row_of (Addr4 iface net) = Addr iface (V4 net)
row_of (OnLink4 iface dest metric) = Route iface (V4 dest) via.OnLink metric
row_of (Reject4 iface dest metric) = Route iface (V4 dest) via.Reject metric
row_of (Gate4 iface dest gate metric) = Route iface (V4 dest) (via.Gate4 gate) metric
row_of (Other row) = row.value
