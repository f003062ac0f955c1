use Rattle.std.proofs.Common.{All, length}
use Rattle.std.specs.BTreeSet.{IsOrdered}
use Rattle.world.specs.RowOrder.{row_cmp}
use Rattle.world.specs.Rows.{IsRow}
use Rattle.child_devices.proofs.ListingRows.{GoesOn}
use Rattle.child_devices.proofs.commands.rows_of.Given as goal

abbrev pub invariant-lines : goal.invariant-lines
invariant-lines l = record {
  rows : All IsRow l.rows.keys;
  ordered : IsOrdered row_cmp l.rows;
  goes_on : GoesOn l.listing l.rest l.rows.keys;
}

abbrev pub decreases-lines : goal.decreases-lines
decreases-lines l = length l.rest
