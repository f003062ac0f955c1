-- Rows with the places that bring them, in an order in which rows with one target stand together.
use Rattle.std.specs.Prelude.{ℕ, Bool, false, ◌&&◌, List, map, Option, Some, None}
use Rattle.std.specs.List.{list_any}
use Rattle.std.specs.List.Sorted.{IsStrictlySortedBy}
use Rattle.std.specs.declared.cmp.Ordering.{Ordering}
use Rattle.std.specs.Ordering.{nat_cmp, on, then_cmp, is_eq, eq_by_cmp}
use Rattle.std.specs.Cmp.{IsTotalOrder, IsEquivalence, eq_by_cmp_equiv}
use Rattle.std.specs.Cmp.Rules.{comparing}
use Rattle.std.specs.BTreeMap.{is_at}
use Rattle.net_types.specs.declared.address.Net.{Net}
use Rattle.world.specs.declared.rows.HostRow.{HostRow}
use Rattle.world.specs.declared.rows.HostRow.TheVariants.{Addr, Route}
use Rattle.world.specs.declared.rows.Via.TheVariants.{OnLink}
use Rattle.world.specs.RowOrder.{family, net_number, net_len, row_iface, row_cmp, row_cmp_total, has_row}
use Rattle.host_model.specs.Precedence.{is_kept}
use Rattle.host_tables.specs.declared.bringing.Bringing.{Bringing}

-- A row's target: an address is its own; that of a route is its destination, length and metric.
abbrev pub target_of : HostRow → HostRow
target_of (Addr iface net) = Addr iface net
target_of (Route iface dest via metric) = Route (record { number = 0 }) dest OnLink metric

-- by family, address and length
abbrev pub net_cmp : Net → Net → Ordering
net_cmp = then_cmp (on family nat_cmp) (then_cmp (on net_number nat_cmp) (on net_len nat_cmp))

-- whether two rows have one target
abbrev pub contends : HostRow → HostRow → Bool
contends a b = is_eq (row_cmp (target_of a) (target_of b))

-- those with one target by interface, row order and place
abbrev pub bringing_cmp_for_target : Bringing → Bringing → Ordering
bringing_cmp_for_target = then_cmp (on (λ b. row_iface b.row) nat_cmp)
    (then_cmp (on (λ b. b.row) row_cmp) (on (λ b. b.place) nat_cmp))

-- by target, and then so
abbrev pub bringing_cmp : Bringing → Bringing → Ordering
bringing_cmp = then_cmp (on (λ b. target_of b.row) row_cmp) bringing_cmp_for_target

-- in that order, each once
abbrev pub InBringingOrder : List Bringing → Type 0
InBringingOrder bringings = IsStrictlySortedBy bringing_cmp bringings

-- whether the place brings the row
abbrev pub has_bringing : List Bringing → HostRow → ℕ → Bool
has_bringing bringings row place = list_any (is_at (bringing_cmp (record { row = row; place = place }))) bringings

abbrev pub rows_in : List Bringing → List HostRow
rows_in bringings = map (λ b. b.row) bringings

-- whether a row is brought, and kept among all that are
abbrev pub stands : List HostRow → HostRow → Bool
stands rows row = is_kept rows row && has_row rows row

-- whether this is the row, where there is one
abbrev pub is_it : Option HostRow → HostRow → Bool
is_it None row = false
is_it (Some one) row = is_eq (row_cmp one row)

-- whether a row stands for the target of this one
abbrev pub stands_at : (target : HostRow) → (rows : List HostRow) → HostRow → Bool
stands_at target rows row = contends row target && stands rows row

-- whether a row stands for the target of one of these
abbrev pub stands_for : (targets rows : List HostRow) → HostRow → Bool
stands_for targets rows row = list_any (contends row) targets && stands rows row

-- it is a total order
pub bringing_cmp_total : IsTotalOrder bringing_cmp
bringing_cmp_total = search (comparing, row_cmp_total) depth 20

pub bringing_eq_equivalence : IsEquivalence (eq_by_cmp bringing_cmp)
bringing_eq_equivalence = eq_by_cmp_equiv bringing_cmp_total
