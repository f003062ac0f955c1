use Rattle.std.proofs.Common.{◌≡◌, ◌≤◌, length}
use Rattle.net_types.specs.Sum.{ones_add, ones_sum}
use Rattle.net_types.specs.Marks.{AreBytes}
use Rattle.net_types.proofs.sum.calls.words_of.Given as goal

abbrev pub invariant-whole : goal.invariant-whole
invariant-whole l = (ones_sum l.piece ≡ ones_add l.total (ones_sum l.rest)) × (l.total ≤ 65535) × AreBytes l.rest

abbrev pub decreases-whole : goal.decreases-whole
decreases-whole l = length l.rest
