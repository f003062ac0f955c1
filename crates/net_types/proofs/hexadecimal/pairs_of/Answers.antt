use Rattle.std.proofs.Common.{◌≡◌, ◌≤◌, ◌∙◌, None, Some, ap, drop, length, rules, take}
use Rattle.net_types.specs.HexText.{pairs_at}
use Rattle.net_types.proofs.HexBlocks.{block_more, block_none}
use Rattle.net_types.proofs.hexadecimal.pairs_of.Goals as goal

pub returns-in_default-block_of : goal.returns-in_default-block_of
returns-in_default-block_of c =
    let front : c.in-Some.block.now ≡ take 32 c.chunks.rest.now = search rules in
    let long : 32 ≤ length c.chunks.rest.now = search rules in
    let none : None ≡ pairs_at c.in-Some.block.now = search rules in
    block_none c.chunks.bytes.items c.chunks.rest.now _ long (none ∙ ap pairs_at front) c.chunks.invariant

pub chunks-preserved : goal.chunks-preserved
chunks-preserved c =
    let front : c.in-Some.block.now ≡ take 32 c.chunks.rest.now = search rules in
    let back : c.in-Some.others.now ≡ drop 32 c.chunks.rest.now = search rules in
    let long : 32 ≤ length c.chunks.rest.now = search rules in
    let some : Some c.in-Some-block_of.more ≡ pairs_at c.in-Some.block.now = search rules in
    let more = block_more c.chunks.bytes.items _ c.chunks.rest.now _ long (some ∙ ap pairs_at front) c.chunks.invariant in
    rw (c.in_ok-extend_from_slice.ensures.items, back) more
