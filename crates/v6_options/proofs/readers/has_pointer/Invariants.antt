use Rattle.std.proofs.Common.{◌≡◌, length}
use Rattle.v6_options.specs.Readers.{pointer_after}
use Rattle.v6_options.proofs.readers.has_pointer.Given as goal

abbrev pub invariant-labels : goal.invariant-labels
invariant-labels l = pointer_after 0 l.value ≡ pointer_after 0 l.rest

abbrev pub decreases-labels : goal.decreases-labels
decreases-labels l = length l.rest
