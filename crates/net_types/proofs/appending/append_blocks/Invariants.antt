-- What stands there and the digits of the rest are what is to stand there.
use Rattle.std.proofs.Common.{◌≡◌, ◌++◌, flat_map, length}
use Rattle.net_types.specs.Cutting.{StandsInFront}
use Rattle.net_types.specs.HexText.{byte_hex}
use Rattle.net_types.proofs.appending.append_blocks.Given as goal

abbrev pub invariant-chunks : goal.invariant-chunks
invariant-chunks l =
    (l.into.items ++ flat_map byte_hex l.rest ≡ l.fn.into.items ++ flat_map byte_hex l.bytes) × StandsInFront l.fn.into.items l.into.items

abbrev pub decreases-chunks : goal.decreases-chunks
decreases-chunks l = length l.rest
