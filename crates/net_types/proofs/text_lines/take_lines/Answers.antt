use Rattle.std.proofs.Common.{rules, sym}
use Rattle.net_types.proofs.LineSteps.{took_next, took_within}
use Rattle.net_types.proofs.ListLaws.{split_smaller}
use Rattle.net_types.proofs.text_lines.take_lines.Goals as goal

pub overflow_add-line : goal.overflow_add-line
overflow_add-line g c =
    let within = took_within g.T.LineState.step _ _ _ _ _ c.lines.invariant in
    search rules

pub lines-smaller : goal.lines-smaller
lines-smaller g c = split_smaller 10 c.lines.rest.now c.in-Some.words.now c.in-Some.others.now (sym c.in-Some.ensures)

pub lines-preserved : goal.lines-preserved
lines-preserved g c = took_next _ _ _ _ _ _ _ _ _ c.lines.invariant (sym c.in-Some.ensures) c.in-Ok.ensures.taken
