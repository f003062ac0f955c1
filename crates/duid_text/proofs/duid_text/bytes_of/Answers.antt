use Rattle.std.proofs.Common.{◌≡◌, ◌≤◌, Some, [], ◌∷◌, rules, length, slice_index}
use Rattle.net_types.specs.HexText.{hex_byte_at}
use Rattle.duid_text.proofs.ReadingLaws.{byte_more}
use Rattle.duid_text.proofs.duid_text.bytes_of.Goals as goal

pub pairs-preserved : goal.pairs-preserved
pairs-preserved c =
    let long : 3 ≤ length c.pairs.rest.now = search rules in
    let read : hex_byte_at (slice_index c.pairs.rest.now 0 ∷ slice_index c.pairs.rest.now 1 ∷ []) ≡ Some c.in-Some.byte = search rules in
    let colon : slice_index c.pairs.rest.now 2 ≡ 58 = search rules in
    rw c.in_ok-push.ensures.items (byte_more c.pairs.bytes.items _ c.in-Some.byte c.pairs.rest.now long read colon c.pairs.invariant)
