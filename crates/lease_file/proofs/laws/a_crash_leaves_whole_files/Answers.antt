use Rattle.lease_file.proofs.CrashLaws.{saving_whole, removing_whole}
use Rattle.lease_file.proofs.laws.a_crash_leaves_whole_files.Goals as goal

pub returns-clause-saving : goal.returns-clause-saving
returns-clause-saving c = saving_whole

pub returns-clause-removing : goal.returns-clause-removing
returns-clause-removing c = removing_whole
