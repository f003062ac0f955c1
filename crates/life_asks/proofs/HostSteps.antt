-- How the host's table comes to the wanted rows.
use Rattle.std.proofs.Common.{ℕ, ◌≡◌, ◌+◌, ◌<◌, ◌≤◌, List, [], ◌∷◌, ◌++◌, length, get_or, take, Option, Some, None, Bool, refl, sym, ap, subst, ◌∙◌}
use Rattle.std.proofs.lemmas.List.{take_more, take_all}
use Rattle.std.specs.Global.{Vec}
use Rattle.std.specs.Prelude.{map, filter, reverse, flat_map, IfSome}
use Rattle.std.specs.List.{AllByRecursion}
use Rattle.world.specs.declared.rows.HostRow.{HostRow}
use Rattle.world.specs.Rows.{IsRow}
use Rattle.world.proofs.RowLists.{in_order_stays}
use Rattle.settings.specs.declared.interfaces.Managed.{Managed}
use Rattle.settings.specs.ManagedRows.{is_managed}
use Rattle.host_tables.specs.declared.union.Diff.{Diff}
use Rattle.host_model.specs.declared.changes.HostChange.{HostChange}
use Rattle.host_model.specs.declared.changes.HostChange.TheVariants.{Remove, Add}
use Rattle.host_model.specs.HostTable.{InRowOrder}
use Rattle.host_model.specs.HostTurn.{changes, applied, after_changes}
use Rattle.host_model.specs.Precedence.{is_kept}
use Rattle.host_model.proofs.HostTableRows.{in_order_sorted, filter_in_order}
use Rattle.host_model.proofs.HostTableChanges.{changes_reach}
use Rattle.client_model.specs.WantedRows.{iface_rows}
use Rattle.client_model.specs.Clients.{Client, rows_of}
use Rattle.client_core.specs.Leading.{Leads}
use Rattle.device_calls.specs.Worlds.{Seen}
use Rattle.device_calls.specs.Does.{Does}
use Rattle.turn_model.specs.Turns.{known_with, changing, rows_on, hosting}
use Rattle.life_asks.specs.declared.tables.Table.{Table}
use Rattle.life_asks.specs.declared.tables.Pending.{Pending}
use Rattle.life_asks.specs.declared.tables.Pending.TheVariants as pending
use Rattle.life_devices.specs.Answered.{rows_in, rows_listed}
use Rattle.life_asks.specs.Tables.{known_in, WasKnown, changes_by, Updates, Hosts}
use Rattle.life_asks.proofs.Parts.{filter_fit}

-- ---- rows in row order

pub wanted_in_order : (client : Client) → InRowOrder (rows_of client)
wanted_in_order client = in_order_sorted (filter (is_kept (flat_map iface_rows client.ifaces)) (flat_map iface_rows client.ifaces))

pub listed_in_order : (rows : Option (Vec HostRow)) → IfSome (rows_listed rows) InRowOrder
listed_in_order None = tt
listed_in_order (Some rows) = in_order_sorted rows.items

pub some_in_order : (listed : Option (Vec HostRow)) (rows : Vec HostRow) → listed ≡ Some rows → IfSome (rows_in listed) InRowOrder → InRowOrder rows.items
some_in_order listed rows is in_order = subst (λ (l : Option (Vec HostRow)). IfSome (rows_in l) InRowOrder) is in_order

pub mine_in_order : (managed : List Managed) (rows mine : List HostRow) → mine ≡ filter (is_managed managed) rows → InRowOrder rows → InRowOrder mine
mine_in_order managed rows mine is in_order = subst InRowOrder (sym is) (filter_in_order (is_managed managed) rows in_order)

pub mine_are : (managed : List Managed) (rows mine : List HostRow) → mine ≡ filter (is_managed managed) rows → InRowOrder rows → mine ≡ rows_on managed rows
mine_are managed rows mine is in_order = is ∙ sym (in_order_stays (filter (is_managed managed) rows) (filter_in_order (is_managed managed) rows in_order))

-- ---- one change after another

after_last : (front : List HostChange) (last : HostChange) (rows : List HostRow)
    → after_changes (front ++ last ∷ []) rows ≡ applied last (after_changes front rows)
after_last [] last rows = refl
after_last (change ∷ front) last rows = after_last front last (applied change rows)

pub after_more : (changes : List HostChange) (i : ℕ) (d : HostChange) (rows : List HostRow) → i < length changes
    → after_changes (take (i + 1) changes) rows ≡ applied (get_or changes i d) (after_changes (take i changes) rows)
after_more changes i d rows lt =
    ap (λ (cs : List HostChange). after_changes cs rows) (take_more changes i d lt) ∙ after_last (take i changes) (get_or changes i d) rows

pub known_more : (changes : List HostChange) (i : ℕ) (d : HostChange) (done : Bool) (table next : Table) (rows : List HostRow) → i < length changes
    → ((change : HostChange) (rows : List HostRow) → known_in next (applied change rows) ≡ known_with done change (known_in table rows))
    → known_in next (after_changes (take (i + 1) changes) rows) ≡ known_with done (get_or changes i d) (known_in table (after_changes (take i changes) rows))
known_more changes i d done table next rows lt is =
    ap (known_in next) (after_more changes i d rows lt) ∙ is (get_or changes i d) (after_changes (take i changes) rows)

pub known_then : (changes : List HostChange) (i : ℕ) (table : Table) (rows : List HostRow) → length changes ≤ i
    → known_in table (after_changes (take i changes) rows) ≡ known_in table (after_changes changes rows)
known_then changes i table rows le = ap (λ (cs : List HostChange). known_in table (after_changes cs rows)) (take_all i changes le)

-- ---- the changes of a diff

pub changes_led : (diff : Diff) (known wanted : List HostRow) → Leads diff known wanted → changes_by diff ≡ changes known wanted
changes_led diff known wanted leads = λ i. map Remove (reverse (leads.gone i)) ++ map Add (leads.come i)

pub updated : (diff : Diff) (made : List HostChange) (table : Table) (old new : Seen) (t u : List ℕ) → made ≡ changes_by diff
    → ((known : List HostRow) → Does (changing made (Some known)) (known_in table (after_changes made known)) old new t u) → Updates diff table old new t u
updated diff made table old new t u made_is does known wanted in_order wanted_in_order leads =
    subst (λ (rows : List HostRow). Does (changing (changes known wanted) (Some known)) (known_in table rows) old new t u)
    (changes_reach known wanted in_order wanted_in_order)
    (subst (λ (cs : List HostChange). Does (changing cs (Some known)) (known_in table (after_changes cs known)) old new t u)
    (made_is ∙ changes_led diff known wanted leads) (does known))

pub led_fit : (diff : Diff) (known wanted : List HostRow) → Leads diff known wanted → AllByRecursion IsRow wanted → AllByRecursion IsRow diff.come.items
led_fit diff known wanted leads fit = subst (AllByRecursion IsRow) (sym leads.come) (filter_fit _ wanted fit)

known_fit : (diff : Diff) (wanted : List HostRow) (known : Option (List HostRow)) → WasKnown (pending.Changes diff) wanted known → AllByRecursion IsRow wanted
    → AllByRecursion IsRow diff.come.items
known_fit diff wanted None knew fit = absurd knew
known_fit diff wanted (Some known) knew fit = led_fit diff known wanted knew.1 fit

pub pending_fit : (due : Pending) (diff : Diff) (wanted : List HostRow) → due ≡ pending.Changes diff
    → (known : Option (List HostRow)) × WasKnown due wanted known
    → AllByRecursion IsRow wanted → AllByRecursion IsRow diff.come.items
pending_fit due diff wanted is knew fit = known_fit diff wanted knew.0 (subst (λ (p : Pending). WasKnown p wanted knew.0) is knew.1) fit

-- ---- a turn's host calls

hosts_known : (managed : List Managed) (diff : Diff) (wanted : List HostRow) (table : Table) (old new : Seen) (t u : List ℕ) → InRowOrder wanted
    → Updates diff table old new t u
    → Hosts managed (pending.Changes diff) wanted table old new t u
hosts_known managed diff wanted table old new t u in_order updates None knew = absurd knew
hosts_known managed diff wanted table old new t u in_order updates (Some known) knew = updates known wanted knew.0 in_order knew.1

pub hosts_changes : (managed : List Managed) (due : Pending) (diff : Diff) (wanted : List HostRow) (table : Table) (old new : Seen) (t u : List ℕ)
    → due ≡ pending.Changes diff → InRowOrder wanted
    → Updates diff table old new t u → Hosts managed due wanted table old new t u
hosts_changes managed due diff wanted table old new t u is in_order updates =
    subst (λ (p : Pending). Hosts managed p wanted table old new t u) (sym is) (hosts_known managed diff wanted table old new t u in_order updates)

pub hosts_unknown : (managed : List Managed) (due : Pending) (wanted : List HostRow) (table : Table) (old new : Seen) (t u : List ℕ) → due ≡ pending.Unknown
    → Does (hosting managed wanted None) (known_in table wanted) old new t u → Hosts managed due wanted table old new t u
hosts_unknown managed due wanted table old new t u is does =
    subst (λ (p : Pending). Hosts managed p wanted table old new t u) (sym is)
    (λ known none. subst (λ (k : Option (List HostRow)). Does (hosting managed wanted k) (known_in table wanted) old new t u) (sym none) does)
