use Rattle.std.proofs.Common.{◌≡◌, true, sym, subst, ◌∙◌, List}
use Rattle.std.specs.Cmp.Lexicographic.{pointwise}
use Rattle.std.specs.Ordering.{eq_by_cmp}
use Rattle.world.specs.declared.rows.HostRow.{HostRow}
use Rattle.world.specs.RowOrder.{row_cmp}
use Rattle.host_tables.proofs.RowsAlike.{alike, same}
use Rattle.host_tables.proofs.host_rows.HostRows.is_same.Goals as goal

pub returns : goal.returns
returns c = (
  λ yes. sym c.self.view_is ∙ alike c.self.inside.rows.items c.other.inside.rows.items (sym c.eq.ensures ∙ yes) ∙ c.other.view_is,
  λ one. c.eq.ensures ∙ subst (λ (rows : List HostRow). pointwise (eq_by_cmp row_cmp) c.self.inside.rows.items rows ≡ true)
      (c.self.view_is ∙ one ∙ sym c.other.view_is) (same c.self.inside.rows.items),
)
