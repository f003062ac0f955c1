-- The host calls of a turn: a listing where the table isn't known, then the removals in the reverse of the row order,
-- then the additions in row order. After a failed one the rest is still made.
use Rattle.std.specs.Prelude.{◌≡◌, Bool, if◌then◌else◌, List, [], ◌∷◌, ◌++◌, map, filter, reverse, length, Option, Some, None}
use Rattle.std.specs.List.{list_all}
use Rattle.world.specs.declared.rows.HostRow.{HostRow}
use Rattle.world.specs.RowOrder.{in_row_order, rows_beyond, with_row, without_row}
use Rattle.world.specs.HostCalls.{HostCall, Listed, Added, Removed}
use Rattle.host_model.specs.declared.changes.HostChange.{HostChange}
use Rattle.host_model.specs.declared.changes.HostChange.TheVariants.{Remove, Add}
use Rattle.settings.specs.declared.interfaces.Managed.{Managed}
use Rattle.settings.specs.ManagedRows.{is_managed}

-- what the host answered in a turn: the rows of a listing in row order, nothing where it failed; and for each change
-- whether it was done
pub record HostMet : Type 0 where
  pub listing : Option (List HostRow)
  pub outcomes : List Bool

-- what leads from the known rows to the wanted ones
abbrev pub changes : List HostRow → List HostRow → List HostChange
changes known wanted = map Remove (reverse (rows_beyond wanted known)) ++ map Add (rows_beyond known wanted)

-- Rows of interfaces that aren't managed are ignored.
abbrev pub learnt : List Managed → Option (List HostRow) → Option (List HostRow) → Option (List HostRow)
learnt managed (Some known) listing = Some known
learnt managed None None = None
learnt managed None (Some listing) = Some (in_row_order (filter (is_managed managed) listing))

abbrev pub changes_from : Option (List HostRow) → List HostRow → List HostChange
changes_from None wanted = []
changes_from (Some known) wanted = changes known wanted

-- the changes to make in a turn
abbrev pub turn_changes : List Managed → Option (List HostRow) → List HostRow → HostMet → List HostChange
turn_changes managed known wanted met = changes_from (learnt managed known met.listing) wanted

abbrev pub change_call : HostChange → Bool → HostCall
change_call (Remove row) done = Removed row done
change_call (Add row) done = Added row done

abbrev pub change_calls : List HostChange → List Bool → List HostCall
change_calls [] outcomes = []
change_calls (change ∷ rest) [] = []
change_calls (change ∷ rest) (done ∷ outcomes) = change_call change done ∷ change_calls rest outcomes

abbrev pub listing_calls : Option (List HostRow) → Option (List HostRow) → List HostCall
listing_calls (Some known) listing = []
listing_calls None listing = Listed listing ∷ []

-- the calls of a turn with their answers
abbrev pub host_calls : List Managed → Option (List HostRow) → List HostRow → HostMet → List HostCall
host_calls managed known wanted met =
    listing_calls known met.listing ++ change_calls (turn_changes managed known wanted met) met.outcomes

-- each change has an answer
abbrev pub AnswersAll : List Managed → Option (List HostRow) → List HostRow → HostMet → Type 0
AnswersAll managed known wanted met = length met.outcomes ≡ length (turn_changes managed known wanted met)

abbrev pub applied : HostChange → List HostRow → List HostRow
applied (Remove row) rows = without_row row rows
applied (Add row) rows = with_row row rows

-- rows after changes that were all done
abbrev pub after_changes : List HostChange → List HostRow → List HostRow
after_changes [] rows = rows
after_changes (change ∷ rest) rows = after_changes rest (applied change rows)

-- Any failure makes the table unknown.
abbrev pub known_from : Option (List HostRow) → List HostRow → List Bool → Option (List HostRow)
known_from None wanted outcomes = None
known_from (Some known) wanted outcomes =
    if list_all (λ done. done) outcomes then Some (after_changes (changes known wanted) known) else None

abbrev pub known_after : List Managed → Option (List HostRow) → List HostRow → HostMet → Option (List HostRow)
known_after managed known wanted met = known_from (learnt managed known met.listing) wanted met.outcomes
