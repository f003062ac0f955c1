use Rattle.std.proofs.Common.{All, map, ◌-◌, ◌^◌}
use Rattle.std.specs.String.{string_bytes}
use Rattle.world.specs.FileNames.{IsFileName}
use Rattle.folder_store.proofs.FolderSteps.{Listing}
use Rattle.folder_store.proofs.ReadSteps.{ListSoFar}
use Rattle.folder_store.proofs.listing.list_on.Given as goal

abbrev pub invariant-entries : goal.invariant-entries
invariant-entries g l = record {
  named : All (λ name. IsFileName (string_bytes name)) l.names.items;
  listing : Listing l.count (g.D.Disk.calls l.fn.disk) (g.D.Disk.calls l.disk) (map string_bytes l.fn.names.items) (map string_bytes l.names.items);
  so_far : ListSoFar (g.D.Disk.held l.fn.disk) (g.D.Disk.held l.disk) (map string_bytes l.fn.names.items) (map string_bytes l.names.items);
}

abbrev pub decreases-entries : goal.decreases-entries
decreases-entries g l = 2 ^ 64 - 1 - l.count
