use Rattle.std.proofs.Common.{◌≡◌, length}
use Rattle.v4_options.specs.OptionArea.{instances_in}
use Rattle.v4_options.specs.OptionValue.{pieces_in}
use Rattle.v4_options.proofs.area.find_option.Given as goal

abbrev pub invariant-instances : goal.invariant-instances
invariant-instances l = pieces_in l.code l.area ≡ pieces_in l.code l.rest

abbrev pub decreases-instances : goal.decreases-instances
decreases-instances l = length (instances_in l.rest)
