use Rattle.std.proofs.Common.{map, take}
use Rattle.client_core.specs.Names.{AreNamed}
use Rattle.client_model.specs.IfaceSteps.{index_of}
use Rattle.client_core.proofs.kept.names_of.Given as goal

abbrev pub invariant-places : goal.invariant-places
invariant-places l = AreNamed (map index_of (take l.place l.ifaces)) l.named
