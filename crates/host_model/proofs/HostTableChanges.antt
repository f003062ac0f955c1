-- Changes to the host's rows: what they lead to, which rows they leave alone, and what becomes of them where some fail.
use Rattle.std.proofs.Common.{ℕ, ◌≡◌, ◌+◌, Bool, true, false, not, ◌||◌, ◌&&◌, List, [], ◌∷◌, ◌++◌, map, reverse, length, refl, sym, ap, ap₂, ◌∙◌, arith, length-append}
use Rattle.std.specs.Prelude.{filter, All, ◌==◌}
use Rattle.std.specs.List.{list_all}
use Rattle.std.specs.Ordering.{is_eq}
use Rattle.std.specs.BTreeMap.{is_at}
use Rattle.std.proofs.lemmas.Bool.{false≢true, and_parts, not-true, ne_eqb}
use Rattle.std.proofs.lemmas.List.Elements.{All-head, All-tail, All-map, All-append, All-filter}
use Rattle.std.proofs.lemmas.List.Folds.{list_any_none}
use Rattle.std.proofs.lemmas.List.Sorted.{IsPermutation-reverse, list_any-IsPermutation}
use Rattle.std.proofs.lemmas.Map.Views.{All-map-IsPermutation}
use Rattle.world.specs.declared.rows.HostRow.{HostRow}
use Rattle.world.specs.RowOrder.{row_cmp, has_row, with_row, without_row, rows_beyond}
use Rattle.world.specs.HostCalls.{HostTold}
use Rattle.host_model.specs.declared.changes.HostChange.{HostChange}
use Rattle.host_model.specs.declared.changes.HostChange.TheVariants.{Remove, Add}
use Rattle.host_model.specs.HostTurn.{changes, change_call, change_calls, applied, after_changes}
use Rattle.host_model.specs.ToldHost.{fails_next, change_from, told_changes}
use Rattle.host_model.specs.HostTable.{InRowOrder, is_done, AllPast}
use Rattle.host_model.proofs.HostTableRows.{same_rows, with_in_order, without_in_order, filter_in_order, has_with, has_without, has_filter, same_answer}

abbrev pub change_row : HostChange → HostRow
change_row (Remove row) = row
change_row (Add row) = row

-- ---- changes that are all done

applied_in_order : (change : HostChange) (rows : List HostRow) → InRowOrder rows → InRowOrder (applied change rows)
applied_in_order (Remove row) rows s = without_in_order row rows s
applied_in_order (Add row) rows s = with_in_order row rows s

after_in_order : (cs : List HostChange) (rows : List HostRow) → InRowOrder rows → InRowOrder (after_changes cs rows)
after_in_order [] rows s = s
after_in_order (c ∷ cs) rows s = after_in_order cs (applied c rows) (applied_in_order c rows s)

after_both : (xs ys : List HostChange) (rows : List HostRow) → after_changes (xs ++ ys) rows ≡ after_changes ys (after_changes xs rows)
after_both [] ys rows = refl
after_both (x ∷ xs) ys rows = after_both xs ys (applied x rows)

has_after_removals : (rs rows : List HostRow) → InRowOrder rows → (q : HostRow)
    → has_row (after_changes (map Remove rs) rows) q ≡ (not (has_row rs q) && has_row rows q)
has_after_removals [] rows s q = refl
has_after_removals (r ∷ rs) rows s q =
    has_after_removals rs (without_row r rows) (without_in_order r rows s) q
    ∙ ap (λ b. not (has_row rs q) && b) (has_without r rows s q)
    ∙ neither (is_eq (row_cmp q r)) (has_row rs q) (has_row rows q)
  where
    neither : (a b c : Bool) → (not b && (not a && c)) ≡ (not (a || b) && c)
    neither true true c = refl
    neither true false c = refl
    neither false true c = refl
    neither false false c = refl

has_after_additions : (more rows : List HostRow) → InRowOrder rows → (q : HostRow)
    → has_row (after_changes (map Add more) rows) q ≡ (has_row more q || has_row rows q)
has_after_additions [] rows s q = refl
has_after_additions (r ∷ more) rows s q =
    has_after_additions more (with_row r rows) (with_in_order r rows s) q
    ∙ ap (λ b. has_row more q || b) (has_with r rows s q)
    ∙ any_of (is_eq (row_cmp q r)) (has_row more q) (has_row rows q)
  where
    any_of : (a b c : Bool) → (b || (c || a)) ≡ ((a || b) || c)
    any_of true true c = refl
    any_of true false true = refl
    any_of true false false = refl
    any_of false true c = refl
    any_of false false true = refl
    any_of false false false = refl

-- the changes lead from the known rows to the wanted ones
pub changes_reach : (known wanted : List HostRow) → InRowOrder known → InRowOrder wanted → after_changes (changes known wanted) known ≡ wanted
changes_reach known wanted s t =
    let gone = rows_beyond wanted known in
    let more = rows_beyond known wanted in
    let left = after_changes (map Remove (reverse gone)) known in
    let left_in_order : InRowOrder left = after_in_order (map Remove (reverse gone)) known s in
    after_both (map Remove (reverse gone)) (map Add more) known
    ∙ same_rows (after_changes (map Add more) left) wanted (after_in_order (map Add more) left left_in_order) t
    (λ q. has_after_additions more left left_in_order q
    ∙ ap₂ (λ a b. a || b) (has_filter (λ row. not (has_row known row)) wanted q)
    (has_after_removals (reverse gone) known s q
    ∙ ap (λ b. not b && has_row known q)
    (sym (list_any-IsPermutation (is_at (row_cmp q)) gone (reverse gone) (IsPermutation-reverse gone)) ∙ has_filter (λ row. not (has_row wanted row)) known q))
    ∙ wanted_alone (has_row known q) (has_row wanted q))
  where
    wanted_alone : (k w : Bool) → ((not k && w) || (not (not w && k) && k)) ≡ w
    wanted_alone true true = refl
    wanted_alone true false = refl
    wanted_alone false true = refl
    wanted_alone false false = refl

-- ---- rows of some interfaces alone

module _ (p : HostRow → Bool) where
  within : (a e h : Bool) → (e ≡ true → a ≡ true) → (a && (h || e)) ≡ ((a && h) || e)
  within true e h inside = refl
  within false true h inside = absurd (false≢true (inside refl))
  within false false h inside = refl

  exchanged : (a b c : Bool) → (a && (b && c)) ≡ (b && (a && c))
  exchanged true true c = refl
  exchanged true false c = refl
  exchanged false true c = refl
  exchanged false false c = refl

  filter_applied : (c : HostChange) (rows : List HostRow) → InRowOrder rows → p (change_row c) ≡ true → filter p (applied c rows) ≡ applied c (filter p rows)
  filter_applied (Remove row) rows s passes =
      let few = filter_in_order p rows s in
      same_rows (filter p (without_row row rows)) (without_row row (filter p rows)) (filter_in_order p (without_row row rows) (without_in_order row rows s))
      (without_in_order row (filter p rows) few)
      (λ q. has_filter p (without_row row rows) q
      ∙ ap (λ b. p q && b) (has_without row rows s q)
      ∙ exchanged (p q) (not (is_eq (row_cmp q row))) (has_row rows q)
      ∙ sym (has_without row (filter p rows) few q ∙ ap (λ b. not (is_eq (row_cmp q row)) && b) (has_filter p rows q)))
  filter_applied (Add row) rows s passes =
      let few = filter_in_order p rows s in
      same_rows (filter p (with_row row rows)) (with_row row (filter p rows)) (filter_in_order p (with_row row rows) (with_in_order row rows s))
      (with_in_order row (filter p rows) few)
      (λ q. has_filter p (with_row row rows) q
      ∙ ap (λ b. p q && b) (has_with row rows s q)
      ∙ within (p q) (is_eq (row_cmp q row)) (has_row rows q) (λ here. same_answer p q row here ∙ passes)
      ∙ sym (has_with row (filter p rows) few q ∙ ap (λ b. b || is_eq (row_cmp q row)) (has_filter p rows q)))

  pub filter_after : (cs : List HostChange) (rows : List HostRow) → InRowOrder rows → All (λ c. p (change_row c) ≡ true) cs
      → filter p (after_changes cs rows) ≡ after_changes cs (filter p rows)
  filter_after [] rows s passes = refl
  filter_after (c ∷ cs) rows s passes =
      filter_after cs (applied c rows) (applied_in_order c rows s) (All-tail (λ x. p (change_row x) ≡ true) c cs passes)
      ∙ ap (after_changes cs) (filter_applied c rows s (All-head (λ x. p (change_row x) ≡ true) c cs passes))

  without_one_more : (a e h : Bool) → (e ≡ true → a ≡ false) → (a && (h || e)) ≡ (a && h)
  without_one_more true true h outside = absurd (false≢true (sym (outside refl)))
  without_one_more true false true outside = refl
  without_one_more true false false outside = refl
  without_one_more false e h outside = refl

  without_one_less : (a e h : Bool) → (e ≡ true → a ≡ false) → (a && (not e && h)) ≡ (a && h)
  without_one_less true true h outside = absurd (false≢true (sym (outside refl)))
  without_one_less true false h outside = refl
  without_one_less false e h outside = refl

  filter_stays : (c : HostChange) (rows : List HostRow) → InRowOrder rows → p (change_row c) ≡ false → filter p (applied c rows) ≡ filter p rows
  filter_stays (Remove row) rows s fails =
      same_rows (filter p (without_row row rows)) (filter p rows) (filter_in_order p (without_row row rows) (without_in_order row rows s))
      (filter_in_order p rows s)
      (λ q. has_filter p (without_row row rows) q
      ∙ ap (λ b. p q && b) (has_without row rows s q)
      ∙ without_one_less (p q) (is_eq (row_cmp q row)) (has_row rows q) (λ here. same_answer p q row here ∙ fails)
      ∙ sym (has_filter p rows q))
  filter_stays (Add row) rows s fails =
      same_rows (filter p (with_row row rows)) (filter p rows) (filter_in_order p (with_row row rows) (with_in_order row rows s)) (filter_in_order p rows s)
      (λ q. has_filter p (with_row row rows) q
      ∙ ap (λ b. p q && b) (has_with row rows s q)
      ∙ without_one_more (p q) (is_eq (row_cmp q row)) (has_row rows q) (λ here. same_answer p q row here ∙ fails)
      ∙ sym (has_filter p rows q))

  -- what holds of the known and of the wanted rows holds of the changes' rows
  pub each_change : (b : Bool) (known wanted : List HostRow) → All (λ row. p row ≡ b) known → All (λ row. p row ≡ b) wanted
      → All (λ c. p (change_row c) ≡ b) (changes known wanted)
  each_change b known wanted h k =
      let gone = rows_beyond wanted known in
      let more = rows_beyond known wanted in
      All-append (λ c. p (change_row c) ≡ b) (map Remove (reverse gone)) (map Add more)
      (All-map-IsPermutation Remove (λ c. p (change_row c) ≡ b) gone (reverse gone) (IsPermutation-reverse gone)
      (All-map (λ c. p (change_row c) ≡ b) Remove gone (All-filter (λ row. not (has_row wanted row)) (λ row. p row ≡ b) known h)))
      (All-map (λ c. p (change_row c) ≡ b) Add more (All-filter (λ row. not (has_row known row)) (λ row. p row ≡ b) wanted k))

-- ---- changes that may fail

module _ (failing : List ℕ) where
  step_in_order : (fails : Bool) (c : HostChange) (told : HostTold) → InRowOrder told.rows → InRowOrder (change_from fails c told).rows
  step_in_order true c told s = s
  step_in_order false c told s = applied_in_order c told.rows s

  pub told_in_order : (cs : List HostChange) (told : HostTold) → InRowOrder told.rows → InRowOrder (told_changes failing cs told).told.rows
  told_in_order [] told s = s
  told_in_order (c ∷ cs) told s = told_in_order cs (change_from (fails_next failing told) c told) (step_in_order (fails_next failing told) c told s)

  module _ (p : HostRow → Bool) where
    step_stays : (fails : Bool) (c : HostChange) (told : HostTold) → InRowOrder told.rows → p (change_row c) ≡ false
        → filter p (change_from fails c told).rows ≡ filter p told.rows
    step_stays true c told s outside = refl
    step_stays false c told s outside = filter_stays p c told.rows s outside

    pub told_stays : (cs : List HostChange) (told : HostTold) → InRowOrder told.rows → All (λ c. p (change_row c) ≡ false) cs
        → filter p (told_changes failing cs told).told.rows ≡ filter p told.rows
    told_stays [] told s outside = refl
    told_stays (c ∷ cs) told s outside =
        let fails = fails_next failing told in
        told_stays cs (change_from fails c told) (step_in_order fails c told s) (All-tail (λ x. p (change_row x) ≡ false) c cs outside)
        ∙ step_stays fails c told s (All-head (λ x. p (change_row x) ≡ false) c cs outside)

  pub told_done : (cs : List HostChange) (told : HostTold) → list_all (λ done. done) (told_changes failing cs told).answer ≡ true
      → (told_changes failing cs told).told.rows ≡ after_changes cs told.rows
  told_done [] told e = refl
  told_done (c ∷ cs) told e =
      let fails = fails_next failing told in
      let next = change_from fails c told in
      let parts = and_parts (not fails) (list_all (λ done. done) (told_changes failing cs next).answer) e in
      told_done cs next parts.1 ∙ ap (λ b. after_changes cs (change_from b c told).rows) (not-true fails parts.0)

  call_done : (c : HostChange) (done : Bool) → is_done (change_call c done) ≡ done
  call_done (Remove row) done = refl
  call_done (Add row) done = refl

  pub calls_done : (cs : List HostChange) (told : HostTold)
      → list_all is_done (change_calls cs (told_changes failing cs told).answer) ≡ list_all (λ done. done) (told_changes failing cs told).answer
  calls_done [] told = refl
  calls_done (c ∷ cs) told =
      let fails = fails_next failing told in
      ap₂ (λ a b. a && b) (call_done c (not fails)) (calls_done cs (change_from fails c told))

  -- ---- calls after the last that fails

  pub fails_no_more : (told : HostTold) → AllPast failing told → fails_next failing told ≡ false
  fails_no_more told past =
      list_any_none (λ k. k == (length told.calls + 1)) failing (λ k d lt. let below = past k d lt in ne_eqb _ _ (λ e. omega arith))

  step_past : (fails : Bool) (c : HostChange) (told : HostTold) → AllPast failing told → AllPast failing (change_from fails c told)
  step_past true c told past k d lt = let below = past k d lt in simp length-append (omega arith)
  step_past false c told past k d lt = let below = past k d lt in simp length-append (omega arith)

  pub all_done : (cs : List HostChange) (told : HostTold) → AllPast failing told → list_all (λ done. done) (told_changes failing cs told).answer ≡ true
  all_done [] told past = refl
  all_done (c ∷ cs) told past =
      let fails = fails_next failing told in
      let next = change_from fails c told in
      ap (λ b. not b && list_all (λ done. done) (told_changes failing cs next).answer) (fails_no_more told past)
      ∙ all_done cs next (step_past fails c told past)
