use Rattle.std.proofs.Common.{◌≤◌, ◌∙◌, sym, arith}
use Rattle.std.proofs.lemmas.Bool.{le-leb, lt-ltb}
use Rattle.prefix_share.proofs.SubnetNumbers.{wide}
use Rattle.prefix_share.proofs.subnets.has_bits.Goals as goal

pub returns-then-from-ge-BITS : goal.returns-then-from-ge-BITS
returns-then-from-ge-BITS c =
    let many : 32 ≤ c.args.bits = omega (arith, c.if-from-ge-BITS.true, c.from.ensures) in
    le-leb _ _ c.if-from-ge-BITS.true ∙ sym (lt-ltb _ _ (wide c.args.number c.args.bits c.ranges.number.fits many))
