-- Of the routes with one destination, length and metric one is kept.
use Rattle.std.specs.Prelude.{Bool, false, not, ◌&&◌, ◌||◌, ◌==◌, nat_lt, List, filter, flat_map}
use Rattle.std.specs.List.{list_any}
use Rattle.std.specs.Ordering.{is_lt}
use Rattle.world.specs.NetTypes.declared.address.Net.{Net}
use Rattle.world.specs.declared.rows.HostRow.{HostRow}
use Rattle.world.specs.declared.rows.HostRow.TheVariants.{Addr, Route}
use Rattle.world.specs.RowOrder.{family, net_number, net_len, row_iface, row_cmp, in_row_order}

abbrev pub same_net : Net → Net → Bool
same_net a b = (family a == family b) && ((net_number a == net_number b) && (net_len a == net_len b))

-- whether two routes have one destination, length and metric
abbrev pub same_target : HostRow → HostRow → Bool
same_target (Addr i a) b = false
same_target (Route i a via_a m) (Addr j b) = false
same_target (Route i a via_a m) (Route j b via_b n) = same_net a b && (m == n)

-- such a route gives way to that of an interface with a lower number, and on one interface to the one that row order
-- puts first
abbrev pub goes_before : HostRow → HostRow → Bool
goes_before a b =
    nat_lt (row_iface a) (row_iface b) || ((row_iface a == row_iface b) && is_lt (row_cmp a b))

unfoldable pub outranks : HostRow → HostRow → Bool
outranks a b = same_target a b && goes_before a b

abbrev pub is_kept : List HostRow → HostRow → Bool
is_kept rows row = not (list_any (λ other. outranks other row) rows)

-- the rows that are kept, each once, in row order
abbrev pub unique_rows : List HostRow → List HostRow
unique_rows rows = in_row_order (filter (is_kept rows) rows)

-- the rows that all places bring
abbrev pub all_rows : List (List HostRow) → List HostRow
all_rows places = flat_map (λ rows. rows) places

-- the rows that are wanted, where these are the rows that each place brings
abbrev pub wanted_of : List (List HostRow) → List HostRow
wanted_of places = unique_rows (all_rows places)
