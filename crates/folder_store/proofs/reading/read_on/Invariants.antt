use Rattle.std.proofs.Common.{◌-◌, ◌^◌}
use Rattle.folder_store.proofs.FolderSteps.{Reading}
use Rattle.folder_store.proofs.ReadSteps.{ReadSoFar}
use Rattle.folder_store.proofs.reading.read_on.Given as goal

abbrev pub invariant-pieces : goal.invariant-pieces
invariant-pieces g l = record {
  reading : Reading l.count (g.D.Disk.calls l.fn.disk) (g.D.Disk.calls l.disk) l.fn.into.items l.into.items;
  so_far : ReadSoFar (g.D.Disk.held l.fn.disk) (g.D.Disk.held l.disk) l.fn.into.items l.into.items;
}

abbrev pub decreases-pieces : goal.decreases-pieces
decreases-pieces g l = 2 ^ 64 - 1 - l.count
