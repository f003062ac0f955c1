use Rattle.progress.proofs.Filing.{opening_reaches_files, turns_reach_files}
use Rattle.progress.proofs.laws.what_is_kept_reaches_its_file.Goals as goal

pub returns : goal.returns
returns c = record { opening = opening_reaches_files; turns = turns_reach_files }
