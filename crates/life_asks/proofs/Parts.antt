-- The parts of a turn, as the code asks them.
use Rattle.std.proofs.Common.{ℕ, ◌≡◌, ◌+◌, ◌<◌, ◌≤◌, ◌-◌, add-one, take, Bool, cond, true, false, List, [], ◌∷◌, ◌++◌, length, get_or, drop, drop-cons, Option, Some, None, sym, subst, arith}
use Rattle.std.proofs.lemmas.Grind.{common_steps}
use Rattle.std.proofs.lemmas.List.{drop_all}
use Rattle.std.specs.Prelude.{map, filter, reverse}
use Rattle.std.specs.List.{AllByRecursion}
use Rattle.world.specs.declared.rows.HostRow.{HostRow}
use Rattle.world.specs.Rows.{IsRow}
use Rattle.host_tables.specs.declared.union.Diff.{Diff}
use Rattle.settings.specs.declared.interfaces.Managed.{Managed}
use Rattle.client_core.specs.IfaceMachines.declared.outs.Sending.{Sending}
use Rattle.client_core.specs.IfaceMachines.Outcomes.{sending_of}
use Rattle.host_model.specs.declared.changes.HostChange.{HostChange}
use Rattle.host_model.specs.declared.changes.HostChange.TheVariants.{Remove, Add}
use Rattle.host_model.specs.HostTurn.{changes}
use Rattle.device_calls.specs.Calls.{Offer, ListRows, Change}
use Rattle.device_calls.specs.Programs.{Done, Then}
use Rattle.device_calls.specs.Worlds.{Seen}
use Rattle.device_calls.specs.Does.{Does}
use Rattle.device_calls.proofs.Doing.{does_done, does_then}
use Rattle.turn_model.specs.Turns.{marked, offering, known_with, changing, rows_on, hosting_listed, hosting}
use Rattle.life_devices.specs.Answered.{FitsChange}
use Rattle.life_asks.specs.Tables.{changes_by}

-- ---- frames

pub offering_none : (sends : List Sending) (unsent : ℕ) (seen : Seen) (text : List ℕ) → length sends < 1
    → Does (offering (map sending_of sends) unsent) unsent seen seen text text
offering_none [] unsent seen text few = does_done unsent seen text
offering_none (s ∷ sends) unsent seen text few = absurd (omega (arith, few))

pub offering_more : (sends later : List Sending) (first : Sending) (unsent set : ℕ) (taken : Bool) (old mid new : Seen) (t u v : List ℕ) → sends ≡ first ∷ later
    → Does (Then (Offer first.iface.number first.bytes.items) Done) taken old mid t u
    → Does (offering (map sending_of later) (marked unsent first.iface.number taken)) set mid new u v
    → Does (offering (map sending_of sends) unsent) set old new t v
offering_more sends later first unsent set taken old mid new t u v same one rest =
    subst (λ (all : List Sending). Does (offering (map sending_of all) unsent) set old new t v) (sym same)
    (does_then (Offer first.iface.number first.bytes.items)
    (λ ok. offering (map sending_of later) (marked unsent first.iface.number ok)) taken set old mid new t u v one rest)

-- a slice is its first item and the rest
pub first_and_rest : (sends : List Sending) (d : Sending) → 1 ≤ length sends → sends ≡ get_or sends 0 d ∷ take (length sends - 1) (drop 1 sends)
first_and_rest sends d some = grind (arith, common_steps)

-- ---- only rows are added

removes_fit : (rows : List HostRow) (more : List HostChange) → AllByRecursion FitsChange more → AllByRecursion FitsChange (map Remove rows ++ more)
removes_fit [] more fit = fit
removes_fit (row ∷ rows) more fit = (tt, removes_fit rows more fit)

adds_fit : (rows : List HostRow) → AllByRecursion IsRow rows → AllByRecursion FitsChange (map Add rows)
adds_fit [] fit = tt
adds_fit (row ∷ rows) fit = (fit.0, adds_fit rows fit.1)

kept_fit : (b : Bool) (row : HostRow) (rest : List HostRow) → IsRow row → AllByRecursion IsRow rest → AllByRecursion IsRow (cond b (row ∷ rest) rest)
kept_fit true row rest fit more = (fit, more)
kept_fit false row rest fit more = more

pub filter_fit : (p : HostRow → Bool) (rows : List HostRow) → AllByRecursion IsRow rows → AllByRecursion IsRow (filter p rows)
filter_fit p [] fit = tt
filter_fit p (row ∷ rows) fit = kept_fit (p row) row (filter p rows) fit.0 (filter_fit p rows fit.1)

pub changes_fit : (diff : Diff) (made : List HostChange) → made ≡ changes_by diff → AllByRecursion IsRow diff.come.items → AllByRecursion FitsChange made
changes_fit diff made same fit =
    subst (λ (cs : List HostChange). AllByRecursion FitsChange cs) (sym same)
    (removes_fit (reverse diff.gone.items) (map Add diff.come.items) (adds_fit diff.come.items fit))

-- ---- a loop over the changes

drop_one : (changes : List HostChange) (i : ℕ) (d : HostChange) → i < length changes → drop i changes ≡ get_or changes i d ∷ drop (i + 1) changes
drop_one changes i d lt = rw add-one (drop-cons changes i d lt)

-- the rest goes on after one more
pub changing_more : (changes : List HostChange) (i : ℕ) (d : HostChange) (done : Bool) (known next result : Option (List HostRow)) (old mid new : Seen)
    (t u v : List ℕ)
    → i < length changes
    → Does (Then (Change (get_or changes i d)) Done) done old mid t u → next ≡ known_with done (get_or changes i d) known
    → Does (changing (drop (i + 1) changes) next) result mid new u v → Does (changing (drop i changes) known) result old new t v
changing_more changes i d done known next result old mid new t u v lt one next_is rest =
    subst (λ (cs : List HostChange). Does (changing cs known) result old new t v) (sym (drop_one changes i d lt))
    (does_then (Change (get_or changes i d))
    (λ done. changing (drop (i + 1) changes) (known_with done (get_or changes i d) known)) done result old mid new t u v one
    (subst (λ (k : Option (List HostRow)). Does (changing (drop (i + 1) changes) k) result mid new u v) next_is rest))

-- nothing is left
pub changing_end : (changes : List HostChange) (i : ℕ) (known : Option (List HostRow)) (seen : Seen) (text : List ℕ) → length changes ≤ i
    → Does (changing (drop i changes) known) known seen seen text text
changing_end changes i known seen text le =
    subst (λ (cs : List HostChange). Does (changing cs known) known seen seen text text) (sym (drop_all i changes le)) (does_done known seen text)

-- ---- the host

pub listed_none : (managed : List Managed) (wanted : List HostRow) (known rows : Option (List HostRow)) (old new : Seen) (t u : List ℕ) → known ≡ None
    → rows ≡ None
    → Does (Then ListRows Done) rows old new t u → Does (hosting managed wanted known) None old new t u
listed_none managed wanted known rows old new t u known_is rows_are listed =
    subst (λ (k : Option (List HostRow)). Does (hosting managed wanted k) None old new t u) (sym known_is)
    (does_then ListRows (hosting_listed managed wanted) None None old new new t u u
    (subst (λ (r : Option (List HostRow)). Does (Then ListRows Done) r old new t u) rows_are listed) (does_done None new u))

pub listed_some : (managed : List Managed) (wanted rows mine : List HostRow) (known listed result : Option (List HostRow)) (old mid new : Seen) (t u v : List ℕ)
    → known ≡ None → listed ≡ Some rows → mine ≡ rows_on managed rows
    → Does (Then ListRows Done) listed old mid t u → Does (changing (changes mine wanted) (Some mine)) result mid new u v
    → Does (hosting managed wanted known) result old new t v
listed_some managed wanted rows mine known listed result old mid new t u v known_is rows_are mine_is did rest =
    subst (λ (k : Option (List HostRow)). Does (hosting managed wanted k) result old new t v) (sym known_is)
    (does_then ListRows (hosting_listed managed wanted) (Some rows) result old mid new t u v
    (subst (λ (r : Option (List HostRow)). Does (Then ListRows Done) r old mid t u) rows_are did)
    (subst (λ (m : List HostRow). Does (changing (changes m wanted) (Some m)) result mid new u v) mine_is rest))
