-- Rows that a host can hold stay such where some are left out and the rest put in order.
use Rattle.std.proofs.Common.{Bool, true, false, cond, List, [], ◌∷◌}
use Rattle.std.specs.Prelude.{filter}
use Rattle.std.specs.List.{AllByRecursion}
use Rattle.std.specs.declared.cmp.Ordering.{Ordering}
use Rattle.std.specs.declared.cmp.Ordering.TheVariants.{Less, Equal, Greater}
use Rattle.std.specs.Ordering.{match_ordering}
use Rattle.world.specs.declared.rows.HostRow.{HostRow}
use Rattle.world.specs.Rows.{IsRow}
use Rattle.world.specs.RowOrder.{row_cmp, with_row, put_in_order, in_row_order}

kept_fit : (b : Bool) (row : HostRow) (rest : List HostRow) → IsRow row → AllByRecursion IsRow rest → AllByRecursion IsRow (cond b (row ∷ rest) rest)
kept_fit true row rest fit more = (fit, more)
kept_fit false row rest fit more = more

filter_fit : (p : HostRow → Bool) (rows : List HostRow) → AllByRecursion IsRow rows → AllByRecursion IsRow (filter p rows)
filter_fit p [] fit = tt
filter_fit p (row ∷ rows) fit = kept_fit (p row) row (filter p rows) fit.0 (filter_fit p rows fit.1)

placed_fit : (r : Ordering) (row x : HostRow) (xs more : List HostRow) → IsRow row → IsRow x → AllByRecursion IsRow xs → AllByRecursion IsRow more
    → AllByRecursion IsRow (match_ordering r (row ∷ x ∷ xs) (x ∷ xs) (x ∷ more))
placed_fit Less row x xs more fit first rest longer = (fit, (first, rest))
placed_fit Equal row x xs more fit first rest longer = (first, rest)
placed_fit Greater row x xs more fit first rest longer = (first, longer)

with_fit : (row : HostRow) (rows : List HostRow) → IsRow row → AllByRecursion IsRow rows → AllByRecursion IsRow (with_row row rows)
with_fit row [] fit all = (fit, tt)
with_fit row (x ∷ xs) fit all = placed_fit (row_cmp row x) row x xs (with_row row xs) fit all.0 all.1 (with_fit row xs fit all.1)

put_fit : (sorted rows : List HostRow) → AllByRecursion IsRow sorted → AllByRecursion IsRow rows → AllByRecursion IsRow (put_in_order sorted rows)
put_fit sorted [] placed fit = placed
put_fit sorted (row ∷ rows) placed fit = put_fit (with_row row sorted) rows (with_fit row sorted fit.0 placed) fit.1

pub order_fit : (p : HostRow → Bool) (rows : List HostRow) → AllByRecursion IsRow rows → AllByRecursion IsRow (in_row_order (filter p rows))
order_fit p rows fit = put_fit [] (filter p rows) tt (filter_fit p rows fit)
