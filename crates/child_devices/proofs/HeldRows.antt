-- The rows of a set are a listing.
use Rattle.std.proofs.Common.{◌≡◌, List, ◌++◌, All, ℕ}
use Rattle.std.specs.List.Sorted.{IsStrictlySortedBy}
use Rattle.world.specs.declared.rows.HostRow.{HostRow}
use Rattle.world.specs.Rows.{IsRow}
use Rattle.world.specs.RowOrder.{row_cmp}
use Rattle.world.proofs.RowLists.{in_order_stays}
use Rattle.child_devices.specs.HostNotes.{AppendsRows}
use Rattle.child_devices.specs.Listings.{IsListing}

pub lists_held : (text : List ℕ) (held old new : List HostRow) → new ≡ old ++ held → IsStrictlySortedBy row_cmp held → All IsRow held → IsListing text held
    → AppendsRows text old new
lists_held text held old new appended sorted rows listing = record {
  kept = held;
  listing = listing;
  rows = rows;
  stays = in_order_stays held sorted;
  appended = appended;
}
