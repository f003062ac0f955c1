use Rattle.std.proofs.Common.{◌≡◌, length}
use Rattle.v4_options.specs.OptionArea.{instances_in}
use Rattle.v4_options.proofs.area.split_option.Given as goal

abbrev pub invariant-options : goal.invariant-options
invariant-options l = instances_in l.area ≡ instances_in l.rest

abbrev pub decreases-options : goal.decreases-options
decreases-options l = length l.rest
