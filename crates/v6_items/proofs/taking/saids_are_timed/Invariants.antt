use Rattle.std.proofs.Common.{take}
use Rattle.v6_items.specs.Bounds.{AreTimed}
use Rattle.v6_items.proofs.taking.saids_are_timed.Given as goal

abbrev pub invariant-loop-said : goal.invariant-loop-said
invariant-loop-said l = AreTimed (take l.said-index l.saids)
