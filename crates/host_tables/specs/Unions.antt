-- The rows of all places, in order, that are kept by what changes.
use Rattle.std.specs.Prelude.{ℕ, ◌≡◌, ◌<◌, ◌==◌, not, ◌&&◌, ◌||◌, List, [], length}
use Rattle.std.specs.List.{AllByRecursion}
use Rattle.std.proofs.Common.{get_or, set}
use Rattle.world.specs.declared.rows.HostRow.{HostRow}
use Rattle.world.specs.Rows.{IsRow}
use Rattle.world.specs.RowOrder.{has_row, rows_beyond}
use Rattle.host_model.specs.HostTable.{InRowOrder}
use Rattle.host_model.specs.Precedence.{all_rows, wanted_of}
use Rattle.host_tables.specs.Bringings.{InBringingOrder, has_bringing, stands, stands_for}
use Rattle.host_tables.specs.declared.diffs.Diffs.{Diffs}
use Rattle.host_tables.specs.declared.union.Diff.{Diff}
use Rattle.host_tables.specs.declared.union.Union.{Union}

-- They are those of the places' rows: each place with each of its rows, and in row order the rows that are wanted.
pub record Unites (places : List (List HostRow)) (union : Union) : Type 0 where
  pub brought : (row : HostRow) (place : ℕ)
      → has_bringing union.brought.items row place ≡ has_row (get_or places place []) row
  pub each_once : InBringingOrder union.brought.items
  pub wanted : (row : HostRow) → has_row union.wanted.items row ≡ stands (all_rows places) row
  pub in_order : InRowOrder union.wanted.items

-- ---- what a step of a change does to them

-- what stands for these targets joins the heads
pub record AddsHeads (targets rows old new : List HostRow) : Type 0 where
  pub has : (row : HostRow) → has_row new row ≡ (has_row old row || stands_for targets rows row)
  pub in_order : InRowOrder new

-- these are the rows that stand for the targets of the rows before and after
pub record AreHeads (before after rows heads : List HostRow) : Type 0 where
  pub has : (row : HostRow) → has_row heads row ≡ (stands_for before rows row || stands_for after rows row)
  pub in_order : InRowOrder heads

-- the place no longer brings these rows
pub record TakesOut (place : ℕ) (rows : List HostRow) (old new : Union) : Type 0 where
  pub wanted : new.wanted ≡ old.wanted
  pub brought : (row : HostRow) (at : ℕ)
      → has_bringing new.brought.items row at
      ≡ (has_bringing old.brought.items row at && not ((at == place) && has_row rows row))
  pub each_once : InBringingOrder new.brought.items

-- the place brings these rows too
pub record Brings (place : ℕ) (rows : List HostRow) (old new : Union) : Type 0 where
  pub wanted : new.wanted ≡ old.wanted
  pub brought : (row : HostRow) (at : ℕ)
      → has_bringing new.brought.items row at
      ≡ (has_bringing old.brought.items row at || ((at == place) && has_row rows row))
  pub each_once : InBringingOrder new.brought.items

pub record RemovesRows (rows old new : List HostRow) : Type 0 where
  pub has : (row : HostRow) → has_row new row ≡ (has_row old row && not (has_row rows row))
  pub in_order : InRowOrder new

pub record AddsRows (rows old new : List HostRow) : Type 0 where
  pub has : (row : HostRow) → has_row new row ≡ (has_row old row || has_row rows row)
  pub in_order : InRowOrder new

-- the rows of before
pub record KeepsRows (old new : Union) : Type 0 where
  pub brought : new.brought.items ≡ old.brought.items
  pub wanted : new.wanted.items ≡ old.wanted.items

-- The wanted rows that are gone and that have come, in row order, where places bring other rows than before.
pub record Differ (before after : List (List HostRow)) (diff : Diff) : Type 0 where
  pub gone : diff.gone.items ≡ rows_beyond (wanted_of after) (wanted_of before)
  pub come : diff.come.items ≡ rows_beyond (wanted_of before) (wanted_of after)

-- the same of several changes, one after another
pub record Sums (before after : List (List HostRow)) (diffs : Diffs) : Type 0 where
  pub gone : diffs.gone.keys ≡ rows_beyond (wanted_of after) (wanted_of before)
  pub come : diffs.come.keys ≡ rows_beyond (wanted_of before) (wanted_of after)

pub record Exchanged (before after : List (List HostRow)) (union : Union) (diff : Diff) : Type 0 where
  pub unites : Unites after union
  pub differ : Differ before after diff

-- Whatever all places bring: where the place brings the rows before, the rows are afterwards those with the rows after
-- in their place.
abbrev pub Exchanges : (place : ℕ) → (before after : List HostRow) → (old new : Union) → Diff → Type 0
Exchanges place before after old new diff =
    (places : List (List HostRow)) → place < length places → before ≡ get_or places place [] → Unites places old
    → Exchanged places (set places place after) new diff

abbrev pub AllFit : List (List HostRow) → Type 0
AllFit places = AllByRecursion (λ rows. AllByRecursion IsRow rows) places
