use Rattle.std.proofs.Common.{rules, ◌≡◌, None}
use Rattle.transcript_read.specs.Heads.{conf_line_at}
use Rattle.transcript_read.proofs.HeadLaws.{conf_all, conf_smaller, conf_within}
use Rattle.transcript_read.proofs.head.conf_lines.Goals as goal

pub overflow_add-line : goal.overflow_add-line
overflow_add-line c =
    let within = conf_within c.args.text.now _ _ _ c.lines.invariant in
    let smaller = conf_smaller _ _ _ c.in-Some.ensures in
    search rules

pub returns : goal.returns
returns c =
    let none : None ≡ conf_line_at c.lines.rest.now = search rules in
    conf_all c.args.text.now c.lines.conf.items c.lines.rest.now c.lines.line c.lines.invariant none
