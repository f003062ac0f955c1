use Rattle.std.proofs.Common.{map, take}
use Rattle.client_core.specs.Due.{AreMoments, dues_of}
use Rattle.client_core.proofs.dues.queue_of.Given as goal

abbrev pub invariant-places : goal.invariant-places
invariant-places l = AreMoments (map dues_of (take l.place l.ifaces)) l.dues
