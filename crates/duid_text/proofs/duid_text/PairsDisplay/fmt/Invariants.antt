use Rattle.std.proofs.Common.{◌++◌, flat_map, take, slice_index}
use Rattle.std.specs.Fmt.{HasWritten, IsPlainFormatter}
use Rattle.net_types.specs.HexText.{byte_hex}
use Rattle.duid_text.proofs.Printing.{colon_hex}
use Rattle.duid_text.proofs.duid_text.PairsDisplay.fmt.Given as goal

abbrev pub invariant-loop-byte : goal.invariant-loop-byte
invariant-loop-byte g l =
    IsPlainFormatter l.fn.f
    → HasWritten g.W.Write.write_str_gives l.fn.f (byte_hex (slice_index l.self.0.now 0) ++ flat_map colon_hex (take l.byte-index l.rest)) l.f
