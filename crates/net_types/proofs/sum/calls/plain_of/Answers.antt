use Rattle.std.proofs.Common.{◌≡◌, ◌-◌, ◌*◌, length, drop, ap, ◌∙◌, arith}
use Rattle.std.proofs.lemmas.List.{take_all, length-drop}
use Rattle.byteorder.specs.Endian.{big_number}
use Rattle.net_types.proofs.Checksum.{word_after}
use Rattle.net_types.proofs.sum.calls.plain_of.Goals as goal

pub words-preserved : goal.words-preserved
words-preserved c =
    let block = c.args.block.now in
    let at = 2 * c.words.i in
    let whole = take_all (length block - at) (drop at block) (omega (arith, length-drop at block)) in
    let word : c.from-total.result ≡ big_number 2 (drop at block) = c.from-total.ensures ∙ c.read_u16.ensures ∙ ap (big_number 2) whole in
    let next = word_after block c.words.i (omega arith) in
    (omega (arith, word, next, c.words.invariant.0), omega (arith, c.words.invariant.1, c.from-total.ensures, c.read_u16.type_inv))
