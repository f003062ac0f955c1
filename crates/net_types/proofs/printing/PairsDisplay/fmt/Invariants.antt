-- Who writes the rest then has written all.
use Rattle.std.proofs.Common.{flat_map, length}
use Rattle.std.specs.Fmt.{HasWritten, IsPlainFormatter}
use Rattle.std.specs.declared.fmt.Formatter.{Formatter}
use Rattle.net_types.specs.HexText.{byte_hex}
use Rattle.net_types.proofs.printing.PairsDisplay.fmt.Given as goal

abbrev pub invariant-pieces : goal.invariant-pieces
invariant-pieces g l =
    IsPlainFormatter l.fn.f
    → IsPlainFormatter l.f × ((last : Formatter g.row.W.Denot) → HasWritten g.W.Write.write_str_gives l.f (flat_map byte_hex l.rest) last →
    HasWritten g.W.Write.write_str_gives l.fn.f (flat_map byte_hex l.self.0.now) last)

abbrev pub decreases-pieces : goal.decreases-pieces
decreases-pieces g l = length l.rest
