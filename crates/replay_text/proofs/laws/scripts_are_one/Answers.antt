use Rattle.replay_text.proofs.FaultLaws as all
use Rattle.replay_text.proofs.laws.scripts_are_one.Goals as goal

pub returns : goal.returns
returns c = all.scripts_are_one
