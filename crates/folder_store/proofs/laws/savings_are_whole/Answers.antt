use Rattle.folder_store.proofs.CrashSteps.{saves_whole}
use Rattle.folder_store.proofs.laws.savings_are_whole.Goals as goal

pub returns : goal.returns
returns c = saves_whole
