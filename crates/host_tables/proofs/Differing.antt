-- Changes one after another, as one.
use Rattle.std.proofs.Common.{◌≡◌, Bool, true, false, not, ◌||◌, ◌&&◌, List, [], refl, sym, ap, ap₂, subst, ◌∙◌}
use Rattle.std.specs.List.Sorted.{IsStrictlySortedBy}
use Rattle.world.specs.declared.rows.HostRow.{HostRow}
use Rattle.world.specs.RowOrder.{has_row, rows_beyond}
use Rattle.host_model.specs.HostTable.{InRowOrder}
use Rattle.host_model.specs.Precedence.{wanted_of}
use Rattle.host_model.proofs.HostTableRows.{same_rows, has_filter, filter_in_order}
use Rattle.host_tables.specs.declared.diffs.Diffs.{Diffs}
use Rattle.host_tables.specs.declared.union.Diff.{Diff}
use Rattle.host_tables.specs.Unions.{Differ, Sums}
use Rattle.host_tables.proofs.WantedRows.{wanted_sorted}

beyond_has : (others rows : List HostRow) (q : HostRow) → has_row (rows_beyond others rows) q ≡ (not (has_row others q) && has_row rows q)
beyond_has others rows q = has_filter (λ row. not (has_row others row)) rows q

beyond_in_order : (others rows : List HostRow) → InRowOrder rows → InRowOrder (rows_beyond others rows)
beyond_in_order others rows s = filter_in_order (λ row. not (has_row others row)) rows s

none_in_order : InRowOrder []
unfolding IsStrictlySortedBy
none_in_order = tt

-- ---- nothing changes

neither : (b : Bool) → false ≡ (not b && b)
neither true = refl
neither false = refl

none_beyond : (rows : List HostRow) → InRowOrder rows → [] ≡ rows_beyond rows rows
none_beyond rows s =
    same_rows [] (rows_beyond rows rows) none_in_order (beyond_in_order rows rows s) (λ q. neither (has_row rows q) ∙ sym (beyond_has rows rows q))

pub none_sums : (diffs : Diffs) → diffs.gone.keys ≡ [] → diffs.come.keys ≡ [] → (places : List (List HostRow)) → Sums places places diffs
none_sums diffs gone come places = record {
  gone = gone ∙ none_beyond (wanted_of places) (wanted_sorted places);
  come = come ∙ none_beyond (wanted_of places) (wanted_sorted places);
}

-- ---- one change more

-- of a row of three tables: whether it is gone once what went of it went in, and what came of it out
abbrev gone_amid : (a b c : Bool) → Bool
gone_amid a b c = (not b && a) || (not (not a && b) && (not c && b))

gone_is : (a b c : Bool) → (gone_amid a b c && not (not b && c)) ≡ (not c && a)
gone_is true true true = refl
gone_is true true false = refl
gone_is true false true = refl
gone_is true false false = refl
gone_is false true true = refl
gone_is false true false = refl
gone_is false false true = refl
gone_is false false false = refl

come_is : (a b c : Bool) → (((not a && b) && not (not c && b)) || (not (gone_amid a b c) && (not b && c))) ≡ (not a && c)
come_is true true true = refl
come_is true true false = refl
come_is true false true = refl
come_is true false false = refl
come_is false true true = refl
come_is false true false = refl
come_is false false true = refl
come_is false false false = refl

-- what a change does to the sets of gone and come rows, in four steps
pub record TakesIn (went came : List HostRow) (gone gone_then gone_new come come_then come_new : List HostRow) : Type 0 where
  pub goes : (q : HostRow) → has_row gone_then q ≡ (has_row gone q || (not (has_row come q) && has_row went q))
  pub leaves : (q : HostRow) → has_row come_then q ≡ (has_row come q && not (has_row went q))
  pub comes : (q : HostRow) → has_row come_new q ≡ (has_row come_then q || (not (has_row gone_then q) && has_row came q))
  pub returns : (q : HostRow) → has_row gone_new q ≡ (has_row gone_then q && not (has_row came q))
  pub gone_ordered : InRowOrder gone → InRowOrder gone_new
  pub come_ordered : InRowOrder come → InRowOrder come_new

module _ (a b c : List HostRow) (sorted_a : InRowOrder a) (sorted_b : InRowOrder b) (sorted_c : InRowOrder c)
    (went came gone gone_then gone_new come come_then come_new : List HostRow)
    (is_gone : gone ≡ rows_beyond b a) (is_come : come ≡ rows_beyond a b) (is_went : went ≡ rows_beyond c b) (is_came : came ≡ rows_beyond b c)
    (takes : TakesIn went came gone gone_then gone_new come come_then come_new) where
  of_beyond : (rows others all : List HostRow) (q : HostRow) → rows ≡ rows_beyond others all → has_row rows q ≡ (not (has_row others q) && has_row all q)
  of_beyond rows others all q is = ap (λ (l : List HostRow). has_row l q) is ∙ beyond_has others all q

  gone_then_is : (q : HostRow) → has_row gone_then q ≡ gone_amid (has_row a q) (has_row b q) (has_row c q)
  gone_then_is q =
      takes.goes q
      ∙ ap₂ (λ (x y : Bool). x || y) (of_beyond gone b a q is_gone)
      (ap₂ (λ (x y : Bool). not x && y) (of_beyond come a b q is_come) (of_beyond went c b q is_went))

  come_then_is : (q : HostRow) → has_row come_then q ≡ ((not (has_row a q) && has_row b q) && not (not (has_row c q) && has_row b q))
  come_then_is q = takes.leaves q ∙ ap₂ (λ (x y : Bool). x && not y) (of_beyond come a b q is_come) (of_beyond went c b q is_went)

  gone_of_all : gone_new ≡ rows_beyond c a
  gone_of_all =
      same_rows gone_new (rows_beyond c a) (takes.gone_ordered (subst InRowOrder (sym is_gone) (beyond_in_order b a sorted_a))) (beyond_in_order c a sorted_a)
      (λ q. takes.returns q ∙ ap₂ (λ (x y : Bool). x && not y) (gone_then_is q) (of_beyond came b c q is_came)
      ∙ gone_is (has_row a q) (has_row b q) (has_row c q) ∙ sym (beyond_has c a q))

  come_of_all : come_new ≡ rows_beyond a c
  come_of_all =
      same_rows come_new (rows_beyond a c) (takes.come_ordered (subst InRowOrder (sym is_come) (beyond_in_order a b sorted_b))) (beyond_in_order a c sorted_c)
      (λ q. takes.comes q ∙ ap₂ (λ (x y : Bool). x || y) (come_then_is q) (ap₂ (λ (x y : Bool). not x && y) (gone_then_is q) (of_beyond came b c q is_came))
      ∙ come_is (has_row a q) (has_row b q) (has_row c q) ∙ sym (beyond_has a c q))

pub sums_on : (old new : Diffs) (change : Diff) (gone_then come_then : List HostRow)
    → TakesIn change.gone.items change.come.items old.gone.keys gone_then new.gone.keys old.come.keys come_then new.come.keys
    → (before between after : List (List HostRow)) → Sums before between old → Differ between after change → Sums before after new
sums_on old new change gone_then come_then takes before between after sums next =
    let a = wanted_of before in let b = wanted_of between in let c = wanted_of after in
    record {
      gone = gone_of_all a b c (wanted_sorted before) (wanted_sorted between) (wanted_sorted after) change.gone.items change.come.items
          old.gone.keys gone_then new.gone.keys old.come.keys come_then new.come.keys sums.gone sums.come next.gone next.come takes;
      come = come_of_all a b c (wanted_sorted before) (wanted_sorted between) (wanted_sorted after) change.gone.items change.come.items
          old.gone.keys gone_then new.gone.keys old.come.keys come_then new.come.keys sums.gone sums.come next.gone next.come takes;
    }
