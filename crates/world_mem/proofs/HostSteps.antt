-- What a host in memory tells after one more call.
use Rattle.std.proofs.Common.{◌≡◌, ℕ, ◌+◌, ◌<◌, get_or, drop, add-one, drop-cons, Bool, true, false, List, [], ◌∷◌, ◌++◌, All, Some, None, length, sym, ap, ◌∙◌, length-append}
use Rattle.std.specs.BTreeSet.{insert_key}
use Rattle.std.specs.Set.{remove_key}
use Rattle.std.specs.BTreeMap.{is_at}
use Rattle.std.proofs.lemmas.List.Sums.{fold-append}
use Rattle.std.proofs.lemmas.Map.Views.{All-insert_key, All-remove_key}
use Rattle.world.specs.declared.rows.HostRow.{HostRow}
use Rattle.world.specs.Rows.{IsRow}
use Rattle.world.specs.RowOrder.{row_cmp, in_row_order, put_in_order, with_row, without_row}
use Rattle.std.specs.List.Sorted.{IsStrictlySortedBy}
use Rattle.world.proofs.RowLists.{in_order_stays}
use Rattle.world.specs.HostCalls.{HostTold, HostCall, Listed, host_answered, ListsRows}
use Rattle.world_mem.specs.declared.hosts.HostEntry.{HostEntry}
use Rattle.world_mem.specs.declared.hosts.HostEntry.TheVariants.{List as Lists, Add, Remove}
use Rattle.world_mem.specs.HostRecord.{host_step, told_from, HoldsRows}

-- one more call is one more step
pub told_more : (first : List HostRow) (entries : List HostEntry) (entry : HostEntry)
    → told_from first (entries ++ entry ∷ []) ≡ host_step (told_from first entries) entry
told_more first entries entry = fold-append host_step _ entries (entry ∷ [])

length_more : {A B : Type 0} (xs : List A) (x : A) (ys : List B) (y : B) → length xs ≡ length ys → length (xs ++ x ∷ []) ≡ length (ys ++ y ∷ [])
length_more xs x ys y e = length-append xs (x ∷ []) ∙ ap (λ n. n + 1) e ∙ sym (length-append ys (y ∷ []))

-- a call that leaves the rows
stays : (told : HostTold) (held : List HostRow) (entries : List HostEntry) (entry : HostEntry) (call : HostCall) → HoldsRows told held entries
    → HoldsRows (host_answered call told.rows told) held (entries ++ entry ∷ [])
stays told held entries entry call h = record { rows = h.rows; are_rows = h.are_rows; counted = length_more told.calls call entries entry h.counted }

pub holds_listed : (told : HostTold) (held : List HostRow) (entries : List HostEntry) (done : Bool) → HoldsRows told held entries
    → HoldsRows (host_step told (Lists done)) held (entries ++ Lists done ∷ [])
holds_listed told held entries true h = stays told held entries (Lists true) (Listed (Some told.rows)) h
holds_listed told held entries false h = stays told held entries (Lists false) (Listed None) h

pub holds_unadded : (told : HostTold) (held : List HostRow) (entries : List HostEntry) (row : HostRow) → HoldsRows told held entries
    → HoldsRows (host_step told (Add false row)) held (entries ++ Add false row ∷ [])
holds_unadded told held entries row h = stays told held entries _ _ h

pub holds_unremoved : (told : HostTold) (held : List HostRow) (entries : List HostEntry) (row : HostRow) → HoldsRows told held entries
    → HoldsRows (host_step told (Remove false row)) held (entries ++ Remove false row ∷ [])
holds_unremoved told held entries row h = stays told held entries _ _ h

pub holds_added : (told : HostTold) (held : List HostRow) (entries : List HostEntry) (row : HostRow) → IsRow row → HoldsRows told held entries
    → HoldsRows (host_step told (Add true row)) (insert_key row_cmp held row) (entries ++ Add true row ∷ [])
holds_added told held entries row is h = record {
  rows = ap (with_row row) h.rows;
  are_rows = All-insert_key row_cmp row IsRow held h.are_rows is;
  counted = length_more told.calls _ entries _ h.counted;
}

pub holds_removed : (told : HostTold) (held : List HostRow) (entries : List HostEntry) (row : HostRow) → HoldsRows told held entries
    → HoldsRows (host_step told (Remove true row)) (remove_key (is_at (row_cmp row)) held) (entries ++ Remove true row ∷ [])
holds_removed told held entries row h = record {
  rows = ap (without_row row) h.rows;
  are_rows = All-remove_key (is_at (row_cmp row)) IsRow held h.are_rows;
  counted = length_more told.calls _ entries _ h.counted;
}

-- the same, from the equations that the code has
pub after_list : (first : List HostRow) (held : List HostRow) (done : Bool) (entries between after : List HostEntry) → between ≡ entries
    → after ≡ between ++ Lists done ∷ [] → HoldsRows (told_from first entries) held entries → HoldsRows (told_from first after) held after
after_list first held done entries between after e f h = rw (f, e, told_more first entries (Lists done)) (holds_listed _ held entries done h)

pub after_unadded : (first : List HostRow) (held : List HostRow) (row : HostRow) (entries between after : List HostEntry) → between ≡ entries
    → after ≡ between ++ Add false row ∷ [] → HoldsRows (told_from first entries) held entries → HoldsRows (told_from first after) held after
after_unadded first held row entries between after e f h = rw (f, e, told_more first entries (Add false row)) (holds_unadded _ held entries row h)

pub after_unremoved : (first : List HostRow) (held : List HostRow) (row : HostRow) (entries between after : List HostEntry) → between ≡ entries
    → after ≡ between ++ Remove false row ∷ [] → HoldsRows (told_from first entries) held entries → HoldsRows (told_from first after) held after
after_unremoved first held row entries between after e f h = rw (f, e, told_more first entries (Remove false row)) (holds_unremoved _ held entries row h)

pub after_add : (first : List HostRow) (held held' : List HostRow) (row kept : HostRow) (entries between after : List HostEntry) → kept ≡ row
    → between ≡ entries → after ≡ between ++ Add true kept ∷ [] → held' ≡ insert_key row_cmp held row → IsRow row
    → HoldsRows (told_from first entries) held entries → HoldsRows (told_from first after) held' after
after_add first held held' row kept entries between after same e f k is h =
    rw (k, f, e, same, told_more first entries (Add true row)) (holds_added _ held entries row is h)

pub after_remove : (first : List HostRow) (held held' : List HostRow) (row kept : HostRow) (entries between after : List HostEntry) → kept ≡ row
    → between ≡ entries → after ≡ between ++ Remove true kept ∷ [] → held' ≡ remove_key (is_at (row_cmp row)) held
    → HoldsRows (told_from first entries) held entries → HoldsRows (told_from first after) held' after
after_remove first held held' row kept entries between after same e f k h =
    rw (k, f, e, same, told_more first entries (Remove true row)) (holds_removed _ held entries row h)

pub lists_rows : (first : List HostRow) (held : List HostRow) (entries between after : List HostEntry) (old new : List HostRow) (told : HostTold)
    → told_from first entries ≡ told → between ≡ entries → after ≡ between ++ Lists true ∷ [] → new ≡ old ++ held → IsStrictlySortedBy row_cmp held
    → HoldsRows (told_from first entries) held entries → ListsRows (Some told) (Some (told_from first after)) old new
lists_rows first held entries between after old new told v e f n s h =
    let same : in_row_order held ≡ held = in_order_stays held s in
    let step : told_from first after ≡ host_step told (Lists true) =
    ap (λ xs. told_from first xs) (f ∙ ap (λ xs. xs ++ Lists true ∷ []) e) ∙ told_more first entries (Lists true) ∙ ap (λ t. host_step t (Lists true)) v in
    record {
      listing = held;
      appended = n;
      rows = h.are_rows;
      once = ap length same;
      told = (same ∙ sym h.rows ∙ ap (λ t. t.rows) v, ap Some step);
    }

-- one more row put in order
pub put_more : (d : HostRow) (xs held held' : List HostRow) (i : ℕ) → i < length xs → held' ≡ insert_key row_cmp held (get_or xs i d)
    → put_in_order held (drop i xs) ≡ in_row_order xs → put_in_order held' (drop (i + 1) xs) ≡ in_row_order xs
put_more d xs held held' i lt k inv = rw (k, add-one) (sym (ap (λ ys. put_in_order held ys) (drop-cons xs i d lt)) ∙ inv)

pub rows_more : (d : HostRow) (rows xs held held' : List HostRow) (i : ℕ) → i < length xs → held' ≡ insert_key row_cmp held (get_or xs i d) → xs ≡ rows
    → All IsRow rows → All IsRow held → All IsRow held'
rows_more d rows xs held held' i lt k e all inv =
    let is : IsRow (get_or xs i d) = (let far : i < length rows = rw e at lt in rw e (all i d far)) in rw k
    (All-insert_key row_cmp (get_or xs i d) IsRow held inv is)
