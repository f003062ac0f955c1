use Rattle.std.proofs.Common.{refl}
use Rattle.folder_store.proofs.FolderSteps.{front_kept, piece_lost, reading_begins, reading_goes_on}
use Rattle.folder_store.proofs.ReadSteps.{read_begins, read_goes_on, read_all}
use Rattle.folder_store.proofs.reading.read_on.Goals as goal

pub pieces-init : goal.pieces-init
pieces-init g c = record { reading = reading_begins _ _; so_far = read_begins _ _ }

pub pieces-preserved : goal.pieces-preserved
pieces-preserved g c = record {
  reading = reading_goes_on _ _ _ _ _ _ _ _ _ refl c.in-Ok-extend_from_slice.ensures.items c.pieces.invariant.reading c.in-Ok.ensures.told;
  so_far = read_goes_on _ _ _ _ _ _ _ c.in-Ok-extend_from_slice.ensures.items c.pieces.invariant.so_far c.in-Ok.ensures.held;
}

pub returns-then-n-eq0-clause-rest : goal.returns-then-n-eq0-clause-rest
returns-then-n-eq0-clause-rest g c = read_all _ _ _ _ _ _ _ c.if-n-eq0.true c.pieces.invariant.so_far c.in-Ok.ensures.held

pub returns-in_default-clause-asked : goal.returns-in_default-clause-asked
returns-in_default-clause-asked g c =
    (rw c.in_default.ensures.items (front_kept _ _ _ _ _ c.pieces.invariant.reading), piece_lost _ _ _ _ _ _ _ c.pieces.invariant.reading c.in-Ok.ensures.told)
