use Rattle.file_evidence.proofs.KeepingTurns.{life_stays_whole}
use Rattle.file_evidence.proofs.StoreRuns.{foretold_whole}
use Rattle.file_evidence.proofs.laws.a_life_leaves_whole_files.Goals as goal

pub returns-clause-cut : goal.returns-clause-cut
returns-clause-cut c = life_stays_whole

pub returns-clause-foretold : goal.returns-clause-foretold
returns-clause-foretold c = foretold_whole
