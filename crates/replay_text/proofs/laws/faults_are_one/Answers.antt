use Rattle.replay_text.proofs.FaultLaws as all
use Rattle.replay_text.proofs.laws.faults_are_one.Goals as goal

pub returns : goal.returns
returns c = all.faults_are_one
