use Rattle.std.proofs.Common.{◌+◌, List, rules, sym, subst}
use Rattle.conf_words.specs.Directives.{Directive}
use Rattle.conf_words.proofs.LineLaws.{line_shorter}
use Rattle.conf_words.proofs.ReadingLaws.{ReadSoFar, read_next, read_within}
use Rattle.conf_words.proofs.reading.read.Goals as goal

pub overflow_add-number : goal.overflow_add-number
overflow_add-number c =
    let within = read_within _ _ _ _ c.lines.invariant in
    let shorter = line_shorter c.lines.rest.now c.in-Some.line.now c.in-Some.others.now c.in-Some.ensures.line in
    search rules

pub lines-preserved : goal.lines-preserved
lines-preserved c =
    subst (λ (found : List Directive). ReadSoFar c.args.text.now c.in-Some.others.now (c.lines.number + 1) found) (sym c.in_ok-keep.ensures)
    (read_next _ _ c.in-Some.others.now _ _ c.in-Some.line.now c.lines.invariant c.in-Some.ensures.line (search rules))
