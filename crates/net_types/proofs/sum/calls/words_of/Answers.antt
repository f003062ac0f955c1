use Rattle.std.proofs.Common.{arith, sym}
use Rattle.net_types.specs.Sum.{ones_sum}
use Rattle.net_types.specs.Marks.{AreBytes}
use Rattle.net_types.proofs.Checksum.{zero_add_ones, sum_small, block_more, fit_bytes, drop_bytes}
use Rattle.net_types.proofs.sum.calls.words_of.Goals as goal

pub whole-init : goal.whole-init
whole-init c =
    let range : AreBytes c.args.piece.now = fit_bytes c.args.piece.now c.type_inv.piece in
    (sym (zero_add_ones (ones_sum c.args.piece.now) (sum_small c.args.piece.now range)), omega arith, range)

pub whole-preserved : goal.whole-preserved
whole-preserved c =
    let before = c.whole.invariant in
    let more = block_more c.whole.rest.now c.whole.total (ones_sum c.args.piece.now) before.2 before.1 (omega arith) before.0 in
    let front = c.split_at.ensures.front in
    let after : AreBytes c.split_at.result.1.now = rw c.split_at.ensures.back (drop_bytes 65536 c.whole.rest.now before.2) in
    (rw (c.ones_add-total.ensures.sum, c.block_of.ensures.sum, c.split_at.ensures.front, c.split_at.ensures.back) more, c.ones_add-total.ensures.word, after)
