use Rattle.std.proofs.Common.{◌≡◌, ◌≤◌, ◌*◌, take}
use Rattle.net_types.specs.Sum.{plain_sum}
use Rattle.net_types.proofs.sum.calls.plain_of.Given as goal

abbrev pub invariant-words : goal.invariant-words
invariant-words l = (l.total ≡ plain_sum (take (2 * l.i) l.block)) × (l.total ≤ 65535 * l.i)
