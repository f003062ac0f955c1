use Rattle.std.proofs.Common.{length}
use Rattle.iface_lists.proofs.unlike.+all_unlike.Given as goal

abbrev pub decreases-all_unlike : goal.decreases-all_unlike
decreases-all_unlike l = length l.specs.now
