use Rattle.std.specs.declared.io.ErrorKind.TheVariants as kind
use Rattle.folder_store.proofs.FileSteps.{some_put}
use Rattle.folder_store.proofs.writing.write_on.Goals as goal

pub returns-then-n-eq0-clause-held : goal.returns-then-n-eq0-clause-held
returns-then-n-eq0-clause-held g c = some_put _ _ _ kind.WriteZero _ _ _ c.pieces.invariant.onto c.in-Ok.ensures.held

pub returns-in-Err-clause-held : goal.returns-in-Err-clause-held
returns-in-Err-clause-held g c = some_put _ _ _ c.in-Err.kind _ _ _ c.pieces.invariant.onto c.in-Err.ensures.held
