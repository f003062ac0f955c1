use Rattle.lease_file.proofs.CrashLaws.{removes_whole}
use Rattle.lease_file.proofs.saving.remove.Goals as goal

pub returns-clause-whole : goal.returns-clause-whole
returns-clause-whole g c = removes_whole _ _ _ _ _ c.remove_steps.ensures.calls
