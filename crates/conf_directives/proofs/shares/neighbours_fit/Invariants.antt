use Rattle.conf_directives.proofs.OrderedShares.{NeighboursFit}
use Rattle.conf_directives.proofs.shares.neighbours_fit.Given as goal

abbrev pub invariant-loop-place : goal.invariant-loop-place
invariant-loop-place l = NeighboursFit l.shares l.place
