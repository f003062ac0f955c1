use Rattle.local_judge.proofs.ProbesTold.{probes}
use Rattle.local_judge.proofs.laws.probes_are_told.Goals as goal

pub returns : goal.returns
returns c = probes
