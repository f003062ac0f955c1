use Rattle.std.proofs.Common.{◌≡◌, ◌<◌, false, length, sym, ◌∙◌, arith, eqb}
use Rattle.std.proofs.lemmas.Bool.{eqb-false}
use Rattle.v6_options.proofs.ReaderSteps.{label_cut, label_passed}
use Rattle.v6_options.proofs.readers.has_pointer.Goals as goal

pub returns-then-rest-len : goal.returns-then-rest-len
returns-then-rest-len c =
    let filled : eqb (length c.labels.rest.now) 0 ≡ false = cc in
    let some : 0 < length c.labels.rest.now = omega (arith, eqb-false _ _ filled) in
    sym (c.labels.invariant ∙ label_cut c.labels.rest.now some c.if-rest-ge-POINTER.false c.if-rest-len.true)

pub labels-preserved : goal.labels-preserved
labels-preserved c =
    let filled : eqb (length c.labels.rest.now) 0 ≡ false = cc in
    let some : 0 < length c.labels.rest.now = omega (arith, eqb-false _ _ filled) in
    rw c.split_at.ensures.back (c.labels.invariant ∙ label_passed c.labels.rest.now some c.if-rest-ge-POINTER.false)
