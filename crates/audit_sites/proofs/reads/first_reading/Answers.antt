use Rattle.std.proofs.Common.{◌≡◌, sym, ◌∙◌}
use Rattle.audit_sites.proofs.ReadLaws.{read_here, read_later}
use Rattle.audit_sites.proofs.reads.first_reading.Goals as goal

pub returns-then-is_named : goal.returns-then-is_named
returns-then-is_named c =
    sym (c.loop-read.invariant
    ∙ read_here c.args.name.now c.args.reads.now c.loop-read.read-index c.read-item.result c.read-item.is c.loop-read-test.true
    (sym c.is_named.ensures ∙ c.if-is_named.true))

pub loop-read-preserved : goal.loop-read-preserved
loop-read-preserved c =
    c.loop-read.invariant
    ∙ read_later c.args.name.now c.args.reads.now c.loop-read.read-index c.read-item.result c.read-item.is c.loop-read-test.true
    (sym c.is_named.ensures ∙ c.if-is_named.false)
