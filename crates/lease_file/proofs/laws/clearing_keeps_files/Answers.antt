use Rattle.lease_file.proofs.CrashLaws.{others_stay, clears_asides}
use Rattle.lease_file.proofs.laws.clearing_keeps_files.Goals as goal

pub returns-clause-others : goal.returns-clause-others
returns-clause-others c = others_stay

pub returns-clause-calls : goal.returns-clause-calls
returns-clause-calls c = clears_asides
