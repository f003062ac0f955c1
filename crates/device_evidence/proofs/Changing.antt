-- What the host's part of a turn makes of the rows, whatever is answered.
use Rattle.std.proofs.Common.{◌≡◌, ◌⊎◌, inl, inr, Bool, true, false, not, ◌&&◌, List, [], ◌∷◌, Option, Some, None, refl, sym, ap, subst, ◌∙◌}
use Rattle.std.specs.Prelude.{filter, All, flat_map, option_map}
use Rattle.std.specs.List.{AllPass, list_all}
use Rattle.std.proofs.lemmas.Bool.{false≢true, and_parts, not_from_true}
use Rattle.std.proofs.lemmas.List.Elements.{All-cons, All-head, All-nil, All-tail, filter_passes}
use Rattle.world.specs.declared.rows.HostRow.{HostRow}
use Rattle.world.specs.HostCalls.{HostCall, HostTold, Listed, host_answered}
use Rattle.world.proofs.RowLists.{in_order_stays}
use Rattle.settings.specs.declared.interfaces.Managed.{Managed}
use Rattle.settings.specs.ManagedRows.{is_managed}
use Rattle.host_model.specs.declared.changes.HostChange.{HostChange}
use Rattle.host_model.specs.declared.changes.HostChange.TheVariants.{Remove, Add}
use Rattle.host_model.specs.HostTurn.{changes, change_call, applied, after_changes}
use Rattle.host_model.specs.HostTable.{InRowOrder, managed_rows, other_rows, Wantable, KnownTruly, is_done}
use Rattle.host_model.proofs.HostTableRows.{with_in_order, without_in_order, filter_in_order}
use Rattle.host_model.proofs.HostTableChanges.{change_row, changes_reach, filter_after, each_change, told_stays}
use Rattle.device_calls.specs.Calls.{host_call}
use Rattle.device_calls.specs.HostWalks.{LeavesRows, HostGoes}
use Rattle.device_calls.specs.Programs.{Answers, calls_with, result_with}
use Rattle.turn_model.specs.Turns.{known_with, changing, rows_on, hosting_listed, hosting}

-- ---- one change

one_in_order : (c : HostChange) (rows : List HostRow) → InRowOrder rows → InRowOrder (applied c rows)
one_in_order (Remove row) rows s = without_in_order row rows s
one_in_order (Add row) rows s = with_in_order row rows s

-- it was made, or nothing was, where it failed
made_or_not : (c : HostChange) (done : Bool) (old new : List HostRow) → LeavesRows (change_call c done) old new
    → (new ≡ applied c old) ⊎ ((new ≡ old) × (done ≡ false))
made_or_not (Remove row) true old new h = inl h
made_or_not (Remove row) false old new (inl h) = inr (h, refl)
made_or_not (Remove row) false old new (inr h) = inl h
made_or_not (Add row) true old new h = inl h
made_or_not (Add row) false old new (inl h) = inr (h, refl)
made_or_not (Add row) false old new (inr h) = inl h

call_done : (c : HostChange) (done : Bool) → is_done (change_call c done) ≡ done
call_done (Remove row) done = refl
call_done (Add row) done = refl

one_stays : (p : HostRow → Bool) (c : HostChange) (told : HostTold) → InRowOrder told.rows → p (change_row c) ≡ false
    → filter p (applied c told.rows) ≡ filter p told.rows
one_stays p c told s outside =
    told_stays [] p (c ∷ []) told s (All-cons (λ x. p (change_row x) ≡ false) c [] outside (All-nil (λ x. p (change_row x) ≡ false)))

-- ---- changes, one after another

pub record Changed (cs : List HostChange) (known result : Option (List HostRow)) (calls : List HostCall) (old new : List HostRow) : Type 0 where
  pub in_order : InRowOrder new
  pub apart : (p : HostRow → Bool) → All (λ c. p (change_row c) ≡ false) cs → filter p new ≡ filter p old
  pub done : list_all is_done calls ≡ true → (new ≡ after_changes cs old) × (result ≡ option_map (after_changes cs) known)
  pub undone : list_all is_done calls ≡ false → result ≡ None

same_known : (known : Option (List HostRow)) → known ≡ option_map (λ rows. rows) known
same_known None = refl
same_known (Some rows) = refl

module _ (c : HostChange) (cs : List HostChange) (done : Bool) (told : HostTold) (rows : List HostRow) (leaves : LeavesRows (change_call c done) told.rows rows)
    (s : InRowOrder told.rows) where
  next_in_order : InRowOrder rows
  next_in_order = by (made_or_not c done told.rows rows leaves)
    where
      by : (rows ≡ applied c told.rows) ⊎ ((rows ≡ told.rows) × (done ≡ false)) → InRowOrder rows
      by (inl made) = subst InRowOrder (sym made) (one_in_order c told.rows s)
      by (inr none) = subst InRowOrder (sym none.0) s

  next_apart : (p : HostRow → Bool) → p (change_row c) ≡ false → filter p rows ≡ filter p told.rows
  next_apart p outside = by (made_or_not c done told.rows rows leaves)
    where
      by : (rows ≡ applied c told.rows) ⊎ ((rows ≡ told.rows) × (done ≡ false)) → filter p rows ≡ filter p told.rows
      by (inl made) = ap (filter p) made ∙ one_stays p c told s outside
      by (inr none) = ap (filter p) none.0

  next_made : done ≡ true → rows ≡ applied c told.rows
  next_made e = by (made_or_not c done told.rows rows leaves)
    where
      by : (rows ≡ applied c told.rows) ⊎ ((rows ≡ told.rows) × (done ≡ false)) → rows ≡ applied c told.rows
      by (inl made) = made
      by (inr none) = absurd (false≢true (sym none.1 ∙ e))

  known_made : (known : Option (List HostRow)) → done ≡ true
      → option_map (after_changes cs) (known_with done c known) ≡ option_map (after_changes (c ∷ cs)) known
  known_made None e = ap (λ b. option_map (after_changes cs) (known_with b c None)) e
  known_made (Some known) e = ap (λ b. option_map (after_changes cs) (known_with b c (Some known))) e

  known_lost : (known : Option (List HostRow)) → done ≡ false → option_map (after_changes cs) (known_with done c known) ≡ None
  known_lost known e = ap (λ b. option_map (after_changes cs) (known_with b c known)) e

  module _ (known result : Option (List HostRow)) (calls : List HostCall) (new : List HostRow)
      (rest : Changed cs (known_with done c known) result calls rows new) where
    step_undone : (b : Bool) → list_all is_done calls ≡ b → (is_done (change_call c done) && b) ≡ false → result ≡ None
    step_undone false e all = rest.undone e
    step_undone true e all = (rest.done e).1 ∙ known_lost known (sym (call_done c done) ∙ sym (and_true (is_done (change_call c done))) ∙ all)
      where
        and_true : (b : Bool) → (b && true) ≡ b
        and_true true = refl
        and_true false = refl

    step_done : (is_done (change_call c done) ≡ true) × (list_all is_done calls ≡ true)
        → (new ≡ after_changes (c ∷ cs) told.rows) × (result ≡ option_map (after_changes (c ∷ cs)) known)
    step_done parts =
        let made : done ≡ true = sym (call_done c done) ∙ parts.0 in
        let later = rest.done parts.1 in
        (later.0 ∙ ap (after_changes cs) (next_made made), later.1 ∙ known_made known made)

    pub changed_then : Changed (c ∷ cs) known result (change_call c done ∷ calls) told.rows new
    changed_then = record {
      in_order = rest.in_order;
      apart = λ p outside.
          rest.apart p (All-tail (λ x. p (change_row x) ≡ false) c cs outside) ∙ next_apart p (All-head (λ x. p (change_row x) ≡ false) c cs outside);
      done = λ all. step_done (and_parts (is_done (change_call c done)) (list_all is_done calls) all);
      undone = step_undone (list_all is_done calls) refl;
    }

pub changing_went : (cs : List HostChange) (known : Option (List HostRow)) (answers : Answers (changing cs known)) (old new : HostTold)
    → HostGoes (flat_map host_call (calls_with (changing cs known) answers)) old new → InRowOrder old.rows
    → Changed cs known (result_with (changing cs known) answers) (flat_map host_call (calls_with (changing cs known) answers)) old.rows new.rows
changing_went [] known answers old new goes s = record {
  in_order = subst (λ (t : HostTold). InRowOrder t.rows) (sym goes) s;
  apart = λ p outside. ap (λ (t : HostTold). filter p t.rows) goes;
  done = λ all. (ap (λ (t : HostTold). t.rows) goes, same_known known);
  undone = λ none. absurd (false≢true (sym none));
}
changing_went (c ∷ cs) known answers old new (rows, leaves, more) s =
    changed_then c cs answers.0 old rows leaves s known (result_with (changing cs (known_with answers.0 c known)) answers.1)
    (flat_map host_call (calls_with (changing cs (known_with answers.0 c known)) answers.1)) new.rows
    (changing_went cs (known_with answers.0 c known) answers.1 (host_answered (change_call c answers.0) rows old) new more
    (next_in_order c cs answers.0 old rows leaves s))

-- ---- the host's part of a turn

pub record HostPart (managed : List Managed) (wanted : List HostRow) (result : Option (List HostRow)) (calls : List HostCall) (old new : List HostRow)
    : Type 0 where
  pub in_order : InRowOrder new
  pub known : KnownTruly managed result new
  pub others : other_rows managed new ≡ other_rows managed old
  pub as_wanted : list_all is_done calls ≡ true → managed_rows managed new ≡ wanted

module _ (managed : List Managed) (wanted : List HostRow) (w : Wantable managed wanted) where
  on_managed_alone : (known rows : List HostRow) → known ≡ managed_rows managed rows → AllPass (is_managed managed) known
  on_managed_alone known rows e = subst (AllPass (is_managed managed)) (sym e) (filter_passes (is_managed managed) rows)

  not_other : (rows : List HostRow) → AllPass (is_managed managed) rows → All (λ row. not (is_managed managed row) ≡ false) rows
  not_other rows passes k d lt = not_from_true _ (passes k d lt)

  module _ (known : List HostRow) (result : Option (List HostRow)) (calls : List HostCall) (old new : List HostRow) (s : InRowOrder old)
      (truly : known ≡ managed_rows managed old) (changed : Changed (changes known wanted) (Some known) result calls old new) where
    apart_rows : list_all is_done calls ≡ true → managed_rows managed new ≡ after_changes (changes known wanted) known
    apart_rows all =
        ap (filter (is_managed managed)) (changed.done all).0
        ∙ filter_after (is_managed managed) (changes known wanted) old s
        (each_change (is_managed managed) true known wanted (on_managed_alone known old truly) w.on_managed)
        ∙ ap (after_changes (changes known wanted)) (sym truly)

    still_known : (b : Bool) → list_all is_done calls ≡ b → KnownTruly managed result new
    still_known true e = subst (λ k. KnownTruly managed k new) (sym (changed.done e).1) (sym (apart_rows e))
    still_known false e = subst (λ k. KnownTruly managed k new) (sym (changed.undone e)) tt

    pub known_went : HostPart managed wanted result calls old new
    known_went = record {
      in_order = changed.in_order;
      known = still_known (list_all is_done calls) refl;
      others =
          changed.apart (λ row. not (is_managed managed row))
          (each_change (λ row. not (is_managed managed row)) false known wanted (not_other known (on_managed_alone known old truly))
          (not_other wanted w.on_managed));
      as_wanted = λ all.
          apart_rows all
          ∙ changes_reach known wanted (subst InRowOrder (sym truly) (filter_in_order (is_managed managed) old s)) w.in_order;
    }

  listed_went : (listing : Option (List HostRow)) (answers : Answers (hosting_listed managed wanted listing)) (old new : HostTold) (rows : List HostRow)
      → LeavesRows (Listed listing) old.rows rows
      → HostGoes (flat_map host_call (calls_with (hosting_listed managed wanted listing) answers)) (host_answered (Listed listing) rows old) new
      → InRowOrder old.rows
      → HostPart managed wanted (result_with (hosting_listed managed wanted listing) answers)
      (Listed listing ∷ flat_map host_call (calls_with (hosting_listed managed wanted listing) answers)) old.rows new.rows
  listed_went None answers old new rows leaves more s =
      let same : new.rows ≡ old.rows = ap (λ (t : HostTold). t.rows) more ∙ leaves in
      record {
        in_order = subst InRowOrder (sym same) s;
        known = tt;
        others = ap (other_rows managed) same;
        as_wanted = λ all. absurd (false≢true all);
      }
  listed_went (Some listing) answers old new rows leaves more s =
      let told : HostTold = host_answered (Listed (Some listing)) rows old in
      let ordered : InRowOrder rows = subst InRowOrder (sym leaves.1) s in
      let truly : rows_on managed listing ≡ managed_rows managed rows =
      ap (rows_on managed) (leaves.0 ∙ sym leaves.1) ∙ in_order_stays (managed_rows managed rows) (filter_in_order (is_managed managed) rows ordered) in
      let known : List HostRow = rows_on managed listing in
      let went =
      known_went known (result_with (changing (changes known wanted) (Some known)) answers)
      (flat_map host_call (calls_with (changing (changes known wanted) (Some known)) answers)) rows new.rows ordered truly
      (changing_went (changes known wanted) (Some known) answers told new more ordered) in
      record {
        in_order = went.in_order;
        known = went.known;
        others = went.others ∙ ap (other_rows managed) leaves.1;
        as_wanted = went.as_wanted;
      }

  pub hosting_went : (known : Option (List HostRow)) (answers : Answers (hosting managed wanted known)) (old new : HostTold)
      → HostGoes (flat_map host_call (calls_with (hosting managed wanted known) answers)) old new → InRowOrder old.rows → KnownTruly managed known old.rows
      → HostPart managed wanted (result_with (hosting managed wanted known) answers)
      (flat_map host_call (calls_with (hosting managed wanted known) answers)) old.rows new.rows
  hosting_went (Some known) answers old new goes s truly =
      known_went known (result_with (changing (changes known wanted) (Some known)) answers)
      (flat_map host_call (calls_with (changing (changes known wanted) (Some known)) answers)) old.rows new.rows s truly
      (changing_went (changes known wanted) (Some known) answers old new goes s)
  hosting_went None answers old new (rows, leaves, more) s truly = listed_went answers.0 answers.1 old new rows leaves more s
