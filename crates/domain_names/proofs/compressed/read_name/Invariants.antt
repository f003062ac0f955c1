use Rattle.std.proofs.Common.{◌+◌, ◌-◌, ◌*◌, length}
use Rattle.domain_names.proofs.Reading.{Reading}
use Rattle.domain_names.proofs.compressed.read_name.Given as goal

abbrev pub invariant-pieces : goal.invariant-pieces
invariant-pieces l = Reading l.value l.from l.start l.at l.name.items l.after

abbrev pub decreases-pieces : goal.decreases-pieces
decreases-pieces l = l.start * (length l.value + 1) + (length l.value - l.at)
