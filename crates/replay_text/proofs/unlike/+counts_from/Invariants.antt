use Rattle.std.proofs.Common.{length}
use Rattle.replay_text.proofs.unlike.+counts_from.Given as goal

abbrev pub decreases-counts_from : goal.decreases-counts_from
decreases-counts_from l = length l.specs.now
