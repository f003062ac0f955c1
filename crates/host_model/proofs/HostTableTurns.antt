-- Turns over a host that tells its table and which calls fail: what stays, what is known, what is reached.
use Rattle.std.proofs.Common.{ℕ, ◌≡◌, Bool, true, false, not, ◌&&◌, List, [], ◌∷◌, ◌++◌, Option, Some, None, refl, sym, ap, ap₂, subst, ◌∙◌, arith, length-append}
use Rattle.std.specs.Prelude.{filter, All}
use Rattle.std.specs.List.{AllPass, list_all}
use Rattle.std.specs.Option.{is_some}
use Rattle.std.proofs.lemmas.Bool.{false≢true, and_parts, cond_both, not_from_true}
use Rattle.std.proofs.lemmas.List.Elements.{filter_passes}
use Rattle.std.proofs.lemmas.List.Folds.{list_all-append}
use Rattle.std.proofs.lemmas.List.Sums.{AllPass-from_list_all, list_all-from_AllPass}
use Rattle.world.specs.declared.rows.HostRow.{HostRow}
use Rattle.world.specs.HostCalls.{HostTold, Listed}
use Rattle.world.proofs.RowLists.{in_order_stays}
use Rattle.settings.specs.declared.interfaces.Managed.{Managed}
use Rattle.settings.specs.ManagedRows.{is_managed}
use Rattle.host_model.specs.HostTurn.{changes, changes_from, change_calls, listing_calls, learnt, after_changes, known_from}
use Rattle.host_model.specs.ToldHost.{fails_next, listing_from, told_listing, told_changes}
use Rattle.host_model.specs.HostTable.{InRowOrder, managed_rows, other_rows, Wantable, KnownTruly, Table, TrueTable, table_turned, is_done, NoneFails, AllPast, Holds}
use Rattle.host_model.proofs.HostTableRows.{filter_in_order}
use Rattle.host_model.proofs.HostTableChanges.{changes_reach, filter_after, each_change, told_in_order, told_stays, told_done, calls_done, fails_no_more, all_done}

module _ (failing : List ℕ) where
  -- ---- the changes of a turn, after its listing

  module _ (managed : List Managed) (wanted : List HostRow) (w : Wantable managed wanted) where
    on_managed_alone : (known rows : List HostRow) → known ≡ managed_rows managed rows → AllPass (is_managed managed) known
    on_managed_alone known rows e = subst (AllPass (is_managed managed)) (sym e) (filter_passes (is_managed managed) rows)

    others_stay : (learned : Option (List HostRow)) (told : HostTold) → InRowOrder told.rows → KnownTruly managed learned told.rows
        → other_rows managed (told_changes failing (changes_from learned wanted) told).told.rows ≡ other_rows managed told.rows
    others_stay None told s truly = refl
    others_stay (Some known) told s truly =
        let not_other : (rows : List HostRow) → AllPass (is_managed managed) rows → All (λ row. not (is_managed managed row) ≡ false) rows =
        λ rows passes k d lt. not_from_true _ (passes k d lt) in
        told_stays failing (λ row. not (is_managed managed row)) (changes known wanted) told s
        (each_change (λ row. not (is_managed managed row)) false known wanted (not_other known (on_managed_alone known told.rows truly))
        (not_other wanted w.on_managed))

    -- where all changes are done
    kept_apart : (known : List HostRow) (told : HostTold) → InRowOrder told.rows → known ≡ managed_rows managed told.rows
        → list_all (λ done. done) (told_changes failing (changes known wanted) told).answer ≡ true
        → managed_rows managed (told_changes failing (changes known wanted) told).told.rows ≡ after_changes (changes known wanted) known
    kept_apart known told s truly done =
        ap (filter (is_managed managed)) (told_done failing (changes known wanted) told done)
        ∙ filter_after (is_managed managed) (changes known wanted) told.rows s
        (each_change (is_managed managed) true known wanted (on_managed_alone known told.rows truly) w.on_managed)
        ∙ ap (after_changes (changes known wanted)) (sym truly)

    stays_true : (learned : Option (List HostRow)) (told : HostTold) → InRowOrder told.rows → KnownTruly managed learned told.rows
        → KnownTruly managed (known_from learned wanted (told_changes failing (changes_from learned wanted) told).answer)
        (told_changes failing (changes_from learned wanted) told).told.rows
    stays_true None told s truly = tt
    stays_true (Some known) told s truly =
        let step = told_changes failing (changes known wanted) told in
        cond_both (list_all (λ done. done) step.answer) (Some (after_changes (changes known wanted) known)) None (λ k. KnownTruly managed k step.told.rows)
        (λ done. sym (kept_apart known told s truly done)) (λ _. tt)

    reached : (learned : Option (List HostRow)) (told : HostTold) → InRowOrder told.rows → KnownTruly managed learned told.rows → is_some learned ≡ true
        → list_all (λ done. done) (told_changes failing (changes_from learned wanted) told).answer ≡ true
        → managed_rows managed (told_changes failing (changes_from learned wanted) told).told.rows ≡ wanted
    reached None told s truly some done = absurd (false≢true some)
    reached (Some known) told s truly some done =
        kept_apart known told s truly done
        ∙ changes_reach known wanted (subst InRowOrder (sym truly) (filter_in_order (is_managed managed) told.rows s)) w.in_order

    -- ---- a turn

    -- what is known after the listing
    listed_true : (fails : Bool) (told : HostTold) → InRowOrder told.rows
        → KnownTruly managed (learnt managed None (listing_from fails told).answer) (listing_from fails told).told.rows
    listed_true true told s = tt
    listed_true false told s = in_order_stays (filter (is_managed managed) told.rows) (filter_in_order (is_managed managed) told.rows s)

    listed_rows : (fails : Bool) (told : HostTold) → (listing_from fails told).told.rows ≡ told.rows
    listed_rows true told = refl
    listed_rows false told = refl

    learnt_true : (known : Option (List HostRow)) (told : HostTold) → InRowOrder told.rows → KnownTruly managed known told.rows
        → KnownTruly managed (learnt managed known (told_listing failing known told).answer) (told_listing failing known told).told.rows
    learnt_true (Some known) told s truly = truly
    learnt_true None told s truly = listed_true (fails_next failing told) told s

    rows_stay : (known : Option (List HostRow)) (told : HostTold) → (told_listing failing known told).told.rows ≡ told.rows
    rows_stay (Some known) told = refl
    rows_stay None told = listed_rows (fails_next failing told) told

    listed_in_order : (known : Option (List HostRow)) (told : HostTold) → InRowOrder told.rows → InRowOrder (told_listing failing known told).told.rows
    listed_in_order known told s = subst InRowOrder (sym (rows_stay known told)) s

    pub turn_true : (table : Table) → TrueTable managed table → TrueTable managed (table_turned managed failing wanted table)
    turn_true table t =
        let listing = told_listing failing table.known table.told in
        let learned = learnt managed table.known listing.answer in
        let s : InRowOrder listing.told.rows = listed_in_order table.known table.told t.in_order in
        record {
          in_order = told_in_order failing (changes_from learned wanted) listing.told s;
          known = stays_true learned listing.told s (learnt_true table.known table.told t.in_order t.known);
        }

    pub turn_leaves_others : (table : Table) → TrueTable managed table
        → other_rows managed (table_turned managed failing wanted table).told.rows ≡ other_rows managed table.told.rows
    turn_leaves_others table t =
        let listing = told_listing failing table.known table.told in
        let learned = learnt managed table.known listing.answer in
        others_stay learned listing.told (listed_in_order table.known table.told t.in_order) (learnt_true table.known table.told t.in_order t.known)
        ∙ ap (other_rows managed) (rows_stay table.known table.told)

    -- a listing that didn't fail gave rows
    listing_some : (listing : Option (List HostRow)) → list_all is_done (Listed listing ∷ []) ≡ true → is_some (learnt managed None listing) ≡ true
    listing_some None done = absurd (false≢true done)
    listing_some (Some rows) done = refl

    learnt_some : (known listing : Option (List HostRow)) → list_all is_done (listing_calls known listing) ≡ true
        → is_some (learnt managed known listing) ≡ true
    learnt_some (Some known) listing done = refl
    learnt_some None listing done = listing_some listing done

    pub turn_holds : (table : Table) → TrueTable managed table → NoneFails managed failing wanted table
        → Holds managed wanted table.told.rows (table_turned managed failing wanted table).told.rows
    turn_holds table t none =
        let listing = told_listing failing table.known table.told in
        let learned = learnt managed table.known listing.answer in
        let cs = changes_from learned wanted in
        let asked = listing_calls table.known listing.answer in
        let made = change_calls cs (told_changes failing cs listing.told).answer in
        let parts =
        and_parts (list_all is_done asked) (list_all is_done made)
        (sym (list_all-append is_done asked made) ∙ list_all-from_AllPass is_done (asked ++ made) none) in
        record {
          as_wanted = reached learned listing.told (listed_in_order table.known table.told t.in_order) (learnt_true table.known table.told t.in_order t.known)
              (learnt_some table.known listing.answer parts.0) (sym (calls_done failing cs listing.told) ∙ parts.1);
          others_stay = turn_leaves_others table t;
        }

  -- ---- a turn after the last call that fails

  listing_done : (fails : Bool) (told : HostTold) → fails ≡ false → list_all is_done (Listed (listing_from fails told).answer ∷ []) ≡ true
  listing_done true told e = absurd (false≢true (sym e))
  listing_done false told e = refl

  asked_done : (known : Option (List HostRow)) (told : HostTold) → AllPast failing told
      → list_all is_done (listing_calls known (told_listing failing known told).answer) ≡ true
  asked_done (Some known) told past = refl
  asked_done None told past = listing_done (fails_next failing told) told (fails_no_more failing told past)

  listing_past : (fails : Bool) (told : HostTold) → AllPast failing told → AllPast failing (listing_from fails told).told
  listing_past true told past k d lt = let below = past k d lt in simp length-append (omega arith)
  listing_past false told past k d lt = let below = past k d lt in simp length-append (omega arith)

  asked_past : (known : Option (List HostRow)) (told : HostTold) → AllPast failing told → AllPast failing (told_listing failing known told).told
  asked_past (Some known) told past = past
  asked_past None told past = listing_past (fails_next failing told) told past

  pub none_fails : (managed : List Managed) (wanted : List HostRow) (table : Table) → AllPast failing table.told → NoneFails managed failing wanted table
  none_fails managed wanted table past =
      let listing = told_listing failing table.known table.told in
      let cs = changes_from (learnt managed table.known listing.answer) wanted in
      let asked = listing_calls table.known listing.answer in
      let made = change_calls cs (told_changes failing cs listing.told).answer in
      AllPass-from_list_all is_done (asked ++ made)
      (list_all-append is_done asked made
      ∙ ap₂ (λ a b. a && b) (asked_done table.known table.told past)
      (calls_done failing cs listing.told ∙ all_done failing cs listing.told (asked_past table.known table.told past)))
