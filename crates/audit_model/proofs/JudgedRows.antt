-- The addresses that are judged, among all rows that are shown: they change with each line as all rows do.
use Rattle.std.proofs.Common.{◌≡◌, Bool, true, false, not, ◌||◌, ◌&&◌, if◌then◌else◌, List, [], refl, sym, ap, ◌∙◌}
use Rattle.std.specs.Prelude.{filter}
use Rattle.std.specs.List.Sorted.{IsStrictlySortedBy}
use Rattle.std.specs.Ordering.{is_eq}
use Rattle.std.proofs.lemmas.Bool.{false≢true}
use Rattle.world.specs.declared.rows.HostRow.{HostRow}
use Rattle.world.specs.RowOrder.{row_cmp, has_row, with_row, without_row}
use Rattle.host_model.specs.HostTable.{InRowOrder}
use Rattle.host_model.proofs.HostTableRows.{same_rows, with_in_order, without_in_order, filter_in_order, has_with, has_without, has_filter, same_answer}

pub no_rows_in_order : InRowOrder []
unfolding IsStrictlySortedBy
no_rows_in_order = tt

put_true : (p h e : Bool) → (e ≡ true → p ≡ true) → ((p && h) || e) ≡ (p && (h || e))
put_true true h e so = refl
put_true false h true so = absurd (false≢true (so refl))
put_true false h false so = refl

put_false : (p h e : Bool) → (e ≡ true → p ≡ false) → (p && h) ≡ (p && (h || e))
put_false false h e so = refl
put_false true h true so = absurd (false≢true (sym (so refl)))
put_false true true false so = refl
put_false true false false so = refl

taken : (p h e : Bool) → (not e && (p && h)) ≡ (p && (not e && h))
taken true h e = refl
taken false h true = refl
taken false h false = refl

pub put_same : (p : HostRow → Bool) (row : HostRow) (rows : List HostRow) → InRowOrder rows → (b : Bool) → p row ≡ b
    → (if b then with_row row (filter p rows) else filter p rows) ≡ filter p (with_row row rows)
put_same p row rows s true e =
    same_rows (with_row row (filter p rows)) (filter p (with_row row rows)) (with_in_order row (filter p rows) (filter_in_order p rows s))
    (filter_in_order p (with_row row rows) (with_in_order row rows s))
    (λ q. has_with row (filter p rows) (filter_in_order p rows s) q
    ∙ ap (λ h. h || is_eq (row_cmp q row)) (has_filter p rows q)
    ∙ put_true (p q) (has_row rows q) (is_eq (row_cmp q row)) (λ at. same_answer p q row at ∙ e)
    ∙ ap (λ h. p q && h) (sym (has_with row rows s q)) ∙ sym (has_filter p (with_row row rows) q))
put_same p row rows s false e =
    same_rows (filter p rows) (filter p (with_row row rows)) (filter_in_order p rows s)
    (filter_in_order p (with_row row rows) (with_in_order row rows s))
    (λ q. has_filter p rows q
    ∙ put_false (p q) (has_row rows q) (is_eq (row_cmp q row)) (λ at. same_answer p q row at ∙ e)
    ∙ ap (λ h. p q && h) (sym (has_with row rows s q)) ∙ sym (has_filter p (with_row row rows) q))

pub taken_same : (p : HostRow → Bool) (row : HostRow) (rows : List HostRow) → InRowOrder rows
    → without_row row (filter p rows) ≡ filter p (without_row row rows)
taken_same p row rows s =
    same_rows (without_row row (filter p rows)) (filter p (without_row row rows)) (without_in_order row (filter p rows) (filter_in_order p rows s))
    (filter_in_order p (without_row row rows) (without_in_order row rows s))
    (λ q. has_without row (filter p rows) (filter_in_order p rows s) q
    ∙ ap (λ h. not (is_eq (row_cmp q row)) && h) (has_filter p rows q)
    ∙ taken (p q) (has_row rows q) (is_eq (row_cmp q row))
    ∙ ap (λ h. p q && h) (sym (has_without row rows s q)) ∙ sym (has_filter p (without_row row rows) q))
