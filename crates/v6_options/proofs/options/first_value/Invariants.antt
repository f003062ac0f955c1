use Rattle.std.proofs.Common.{◌≡◌, length}
use Rattle.v6_options.specs.OptionArea.{instances_in}
use Rattle.v6_options.specs.OptionWalk.{first_of}
use Rattle.v6_options.proofs.options.first_value.Given as goal

abbrev pub invariant-options : goal.invariant-options
invariant-options l = first_of l.code (instances_in l.area) ≡ first_of l.code (instances_in l.rest)

abbrev pub decreases-options : goal.decreases-options
decreases-options l = length (instances_in l.rest)
