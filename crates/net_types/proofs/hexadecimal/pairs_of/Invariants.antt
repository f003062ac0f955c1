-- The bytes so far and those of the rest are those of all.
use Rattle.std.proofs.Common.{◌≡◌, ◌++◌, option_map, length}
use Rattle.net_types.specs.HexText.{pairs_at}
use Rattle.net_types.proofs.hexadecimal.pairs_of.Given as goal

abbrev pub invariant-chunks : goal.invariant-chunks
invariant-chunks l = option_map (λ xs. l.bytes.items ++ xs) (pairs_at l.rest) ≡ pairs_at l.pairs

abbrev pub decreases-chunks : goal.decreases-chunks
decreases-chunks l = length l.rest
