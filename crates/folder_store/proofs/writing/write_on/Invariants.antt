use Rattle.std.proofs.Common.{length}
use Rattle.folder_store.proofs.FileSteps.{Onto}
use Rattle.folder_store.proofs.FolderSteps.{Writing}
use Rattle.folder_store.proofs.writing.write_on.Given as goal

abbrev pub invariant-pieces : goal.invariant-pieces
invariant-pieces g l = record {
  writing : Writing l.bytes l.rest (g.D.Disk.calls l.fn.disk) (g.D.Disk.calls l.disk);
  onto : Onto l.bytes l.rest (g.D.Disk.held l.fn.disk) (g.D.Disk.held l.disk);
}

abbrev pub decreases-pieces : goal.decreases-pieces
decreases-pieces g l = length l.rest
