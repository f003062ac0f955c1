use Rattle.std.proofs.Common.{sym}
use Rattle.text_works.proofs.HeadLines.{printed_more, printed_all, rest_is, rest_smaller}
use Rattle.text_works.proofs.heads.say_ended.Goals as goal

pub returns-in-None-clause-lines : goal.returns-in-None-clause-lines
returns-in-None-clause-lines c = printed_all _ _ c.args.conf.now c.lines.rest.now (sym c.in-None.ensures) c.lines.invariant

pub returns-in-None-clause-rest : goal.returns-in-None-clause-rest
returns-in-None-clause-rest c = rest_is _ _ c.args.conf.now c.lines.rest.now (sym c.in-None.ensures) c.lines.invariant

pub lines-smaller : goal.lines-smaller
lines-smaller c = rest_smaller c.lines.rest.now c.in-Some.line.now c.in-Some.after.now (sym c.in-Some.ensures)

pub lines-preserved : goal.lines-preserved
lines-preserved c =
    printed_more _ _ _ c.args.conf.now c.lines.rest.now c.in-Some.line.now c.in-Some.after.now
    (sym c.in-Some.ensures) c.lines.invariant c.in_ok-say-in-Some.ensures
