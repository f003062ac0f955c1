use Rattle.folder_store.proofs.FileSteps.{put_in}
use Rattle.folder_store.proofs.writing.write.Goals as goal

pub returns-clause-held : goal.returns-clause-held
returns-clause-held g c = put_in _ _ _ _ _ _ _ c.in_ok-make.ensures.held c.write_on-written.ensures.held c.close.ensures.held
