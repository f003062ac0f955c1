use Rattle.lease_file.proofs.CrashLaws.{saves_whole}
use Rattle.lease_file.proofs.saving.save.Goals as goal

pub returns-clause-whole : goal.returns-clause-whole
returns-clause-whole g c = saves_whole _ _ _ _ _ _ c.save_steps.ensures.calls
