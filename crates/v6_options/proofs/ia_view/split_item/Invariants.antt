use Rattle.std.proofs.Common.{◌≡◌, length}
use Rattle.v6_options.specs.OptionArea.{instances_in}
use Rattle.v6_options.specs.Ias.{items_in}
use Rattle.v6_options.proofs.ia_view.split_item.Given as goal

abbrev pub invariant-options : goal.invariant-options
invariant-options l = items_in l.kind l.options ≡ items_in l.kind l.rest

abbrev pub decreases-options : goal.decreases-options
decreases-options l = length (instances_in l.rest)
