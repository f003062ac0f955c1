-- The order of the host's rows: addresses before routes; addresses by family, interface, address and length;
-- routes by their kind (on link, refused, by a gateway), family, interface, destination, length, metric and gateway.
use Rattle.std.specs.Prelude.{ℕ, List, [], ◌∷◌, Bool, not, filter}
use Rattle.std.specs.List.{list_any}
use Rattle.std.specs.declared.cmp.Ordering.{Ordering}
use Rattle.std.specs.Ordering.{nat_cmp, on, then_cmp, eq_by_cmp}
use Rattle.std.specs.Cmp.{IsTotalOrder, IsEquivalence, eq_by_cmp_equiv}
use Rattle.std.specs.Cmp.Rules.{comparing}
use Rattle.std.specs.BTreeSet.{insert_key}
use Rattle.std.specs.Set.{remove_key}
use Rattle.std.specs.BTreeMap.{is_at}
use Rattle.net_types.specs.declared.address.Net.{Net}
use Rattle.net_types.specs.declared.address.Net.TheVariants as Family
use Rattle.world.specs.declared.rows.HostRow.{HostRow}
use Rattle.world.specs.declared.rows.HostRow.TheVariants.{Addr, Route}
use Rattle.world.specs.declared.rows.Via.{Via}
use Rattle.world.specs.declared.rows.Via.TheVariants as Ways

abbrev pub family : Net → ℕ
family (Family.V4 net) = 0
family (Family.V6 net) = 1

abbrev pub net_number : Net → ℕ
net_number (Family.V4 net) = net.ip.number
net_number (Family.V6 net) = net.ip.number

abbrev pub net_len : Net → ℕ
net_len (Family.V4 net) = net.len
net_len (Family.V6 net) = net.len

abbrev pub way_rank : Via → ℕ
way_rank Ways.OnLink = 1
way_rank Ways.Reject = 2
way_rank (Ways.Gate4 gate) = 3
way_rank (Ways.Gate6 gate) = 4

abbrev pub way_gate : Via → ℕ
way_gate Ways.OnLink = 0
way_gate Ways.Reject = 0
way_gate (Ways.Gate4 gate) = gate.number
way_gate (Ways.Gate6 gate) = gate.number

abbrev pub row_rank : HostRow → ℕ
row_rank (Addr iface net) = 0
row_rank (Route iface dest way metric) = way_rank way

abbrev pub row_iface : HostRow → ℕ
row_iface (Addr iface net) = iface.number
row_iface (Route iface dest way metric) = iface.number

abbrev pub row_net : HostRow → Net
row_net (Addr iface net) = net
row_net (Route iface dest way metric) = dest

abbrev pub row_metric : HostRow → ℕ
row_metric (Addr iface net) = 0
row_metric (Route iface dest way metric) = metric

abbrev pub row_gate : HostRow → ℕ
row_gate (Addr iface net) = 0
row_gate (Route iface dest way metric) = way_gate way

-- the numbers by which two rows of one kind on one interface are compared, the first that differ decide
abbrev pub row_cmp_on_interface : HostRow → HostRow → Ordering
row_cmp_on_interface = then_cmp (on (λ row. net_number (row_net row)) nat_cmp)
    (then_cmp (on (λ row. net_len (row_net row)) nat_cmp) (then_cmp (on row_metric nat_cmp) (on row_gate nat_cmp)))

-- the numbers by which two rows are compared, the first that differ decide
abbrev pub row_cmp : HostRow → HostRow → Ordering
row_cmp = then_cmp (on row_rank nat_cmp) (then_cmp (on (λ row. family (row_net row)) nat_cmp)
    (then_cmp (on row_iface nat_cmp) row_cmp_on_interface))

-- whether the rows have this one
abbrev pub has_row : List HostRow → HostRow → Bool
has_row rows row = list_any (is_at (row_cmp row)) rows

-- rows in row order with one more, unless it is there
abbrev pub with_row : HostRow → List HostRow → List HostRow
with_row row rows = insert_key row_cmp rows row

-- rows without one
abbrev pub without_row : HostRow → List HostRow → List HostRow
without_row row rows = remove_key (is_at (row_cmp row)) rows

-- rows in row order, each once: put in one after another
abbrev pub put_in_order : List HostRow → List HostRow → List HostRow
put_in_order sorted [] = sorted
put_in_order sorted (row ∷ rows) = put_in_order (with_row row sorted) rows

abbrev pub in_row_order : List HostRow → List HostRow
in_row_order rows = put_in_order [] rows

-- the rows that others lack
abbrev pub rows_beyond : List HostRow → List HostRow → List HostRow
rows_beyond others rows = filter (λ row. not (has_row others row)) rows

-- it is a total order
pub row_cmp_total : IsTotalOrder row_cmp
row_cmp_total = search comparing depth 20

pub row_eq_equivalence : IsEquivalence (eq_by_cmp row_cmp)
row_eq_equivalence = eq_by_cmp_equiv row_cmp_total
