use Rattle.std.proofs.Common.{◌<◌, length, arith}
use Rattle.lease6_text.specs.declared.lease.TheConstants.{IA_LIMIT}
use Rattle.lease6_text.proofs.IaFacts.{may_begin_is}
use Rattle.lease6_text.proofs.parts.may_begin.Goals as goal

pub returns-then-ias-lt-IA_LIMIT : goal.returns-then-ias-lt-IA_LIMIT
returns-then-ias-lt-IA_LIMIT c =
    let few : length c.args.ias.now < IA_LIMIT = omega (arith, c.if-ias-lt-IA_LIMIT.true) in
    may_begin_is (c.args.kind, c.args.iaid) c.args.ias.now c.has_ia.result few c.has_ia.ensures
