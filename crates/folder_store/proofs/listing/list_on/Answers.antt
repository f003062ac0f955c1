use Rattle.std.proofs.Common.{refl}
use Rattle.folder_store.proofs.FolderSteps.{listing_goes_on, name_lost}
use Rattle.folder_store.proofs.ReadSteps.{list_goes_on, list_ends}
use Rattle.folder_store.proofs.listing.list_on.Goals as goal

pub entries-preserved : goal.entries-preserved
entries-preserved g c = record {
  named = c.in-Ok-true.ensures.named;
  listing = listing_goes_on _ _ _ _ _ _ _ _ refl c.entries.invariant.listing (rw c.in-Ok-true.field-0-test at c.in-Ok-true.ensures.listed);
  so_far = list_goes_on _ _ _ _ _ _ c.entries.invariant.so_far c.in-Ok-true.ensures.held (rw c.in-Ok-true.field-0-test at c.in-Ok-true.ensures.one);
}

pub returns-in-Ok-false-clause-rest : goal.returns-in-Ok-false-clause-rest
returns-in-Ok-false-clause-rest g c =
    list_ends _ _ (g.D.Disk.held c.list_one.new.disk) _ _ _ (rw c.in-Ok-false.field-0-test at c.in-Ok-false.ensures.listed).0 c.entries.invariant.so_far
    (rw c.in-Ok-false.field-0-test at c.in-Ok-false.ensures.one)

pub returns-in-Err-clause-cut : goal.returns-in-Err-clause-cut
returns-in-Err-clause-cut g c = name_lost _ _ _ _ _ _ _ c.entries.invariant.listing c.in-Err.ensures.listed.1
