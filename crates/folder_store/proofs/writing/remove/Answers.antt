use Rattle.std.proofs.Common.{sym, ◌∙◌}
use Rattle.folder_store.proofs.FileSteps.{missing}
use Rattle.folder_store.proofs.writing.remove.Goals as goal

pub returns-then-is_missing-clause-held : goal.returns-then-is_missing-clause-held
returns-then-is_missing-clause-held g c = missing _ c.in-Err.kind _ _ (sym c.is_missing.ensures ∙ c.if-is_missing.true) c.in-Err.ensures.held
