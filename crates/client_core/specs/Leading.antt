-- How the rows that a host is to hold change.
use Rattle.std.specs.Prelude.{◌≡◌, List, Option, Some, None}
use Rattle.world.specs.declared.rows.HostRow.{HostRow}
use Rattle.world.specs.RowOrder.{rows_beyond}
use Rattle.host_tables.specs.declared.diffs.Diffs.{Diffs}
use Rattle.host_tables.specs.declared.union.Diff.{Diff}
use Rattle.host_tables.specs.Unions.{Differ, Sums}

-- these rows are gone, and these have come
pub record Leads (diff : Diff) (before after : List HostRow) : Type 0 where
  pub gone : diff.gone.items ≡ rows_beyond after before
  pub come : diff.come.items ≡ rows_beyond before after

-- the rows that places bring are the same, or the wanted rows differ so
abbrev pub Alters : Option Diff → (before after : List (List HostRow)) → Type 0
Alters None before after = after ≡ before
Alters (Some diff) before after = Differ before after diff

-- the changes that led to rows so far lead on to those that come of a further one
abbrev pub LeadsOn : Option Diff → (so_far all : Diffs) → Type 0
LeadsOn change so_far all =
    (before between after : List (List HostRow)) → Sums before between so_far → Alters change between after
    → Sums before after all
