use Rattle.std.proofs.Common.{◌≡◌, length}
use Rattle.v6_options.specs.OptionArea.{instances_in}
use Rattle.v6_options.specs.Ias.{ias_in}
use Rattle.v6_options.proofs.ia_view.split_ia.Given as goal

abbrev pub invariant-options : goal.invariant-options
invariant-options l = ias_in l.options ≡ ias_in l.rest

abbrev pub decreases-options : goal.decreases-options
decreases-options l = length (instances_in l.rest)
