use Rattle.lease_file.proofs.CrashLaws.{clears_whole}
use Rattle.lease_file.proofs.clearing.clear_asides.Goals as goal

pub returns-clause-whole : goal.returns-clause-whole
returns-clause-whole g c = clears_whole _ _ _ _ c.clear_steps.ensures.answered c.clear_steps.ensures.begun
