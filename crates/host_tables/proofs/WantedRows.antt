-- The wanted rows of sets that are those of the places' rows.
use Rattle.std.proofs.Common.{ℕ, zero, suc, ◌≡◌, List, [], ◌∷◌, set, sym, subst, ◌∙◌}
use Rattle.std.specs.Prelude.{filter}
use Rattle.std.specs.List.{AllByRecursion}
use Rattle.net_types.proofs.AllLaws.{all_join}
use Rattle.world.specs.declared.rows.HostRow.{HostRow}
use Rattle.world.specs.Rows.{IsRow}
use Rattle.world.specs.RowOrder.{has_row}
use Rattle.host_model.specs.HostTable.{InRowOrder}
use Rattle.world.proofs.RowLists.{in_order_has}
use Rattle.host_model.proofs.HostTableRows.{same_rows, has_filter, in_order_sorted}
use Rattle.host_tables.specs.declared.union.Union.{Union}
use Rattle.host_model.specs.Precedence.{is_kept, all_rows, wanted_of}
use Rattle.host_tables.specs.Bringings.{stands}
use Rattle.host_tables.specs.Unions.{Unites, AllFit}
use Rattle.host_tables.proofs.RowsFit.{order_fit}

pub wanted_has : (places : List (List HostRow)) (q : HostRow) → has_row (wanted_of places) q ≡ stands (all_rows places) q
wanted_has places q =
    in_order_has (filter (is_kept (all_rows places)) (all_rows places)) q ∙ has_filter (is_kept (all_rows places)) (all_rows places) q

pub wanted_sorted : (places : List (List HostRow)) → InRowOrder (wanted_of places)
wanted_sorted places = in_order_sorted (filter (is_kept (all_rows places)) (all_rows places))

pub united_wanted : (places : List (List HostRow)) (union : Union) → Unites places union → union.wanted.items ≡ wanted_of places
united_wanted places union unites =
    same_rows union.wanted.items (wanted_of places) unites.in_order (wanted_sorted places) (λ q. unites.wanted q ∙ sym (wanted_has places q))

all_fit : (places : List (List HostRow)) → AllFit places → AllByRecursion IsRow (all_rows places)
all_fit [] fit = tt
all_fit (rows ∷ places) fit = all_join IsRow rows (all_rows places) fit.0 (all_fit places fit.1)

pub united_fit : (places : List (List HostRow)) (union : Union) → Unites places union → AllFit places → AllByRecursion IsRow union.wanted.items
united_fit places union unites fit =
    subst (AllByRecursion IsRow) (sym (united_wanted places union unites)) (order_fit (is_kept (all_rows places)) (all_rows places) (all_fit places fit))

pub set_fit : (places : List (List HostRow)) (place : ℕ) (rows : List HostRow) → AllFit places → AllByRecursion IsRow rows → AllFit (set places place rows)
set_fit [] place rows fit more = tt
set_fit (x ∷ places) zero rows fit more = (more, fit.1)
set_fit (x ∷ places) (suc k) rows fit more = (fit.0, set_fit places k rows fit.1 more)
