use Rattle.std.proofs.Common.{map}
use Rattle.conf_words.specs.Directives.{shown_line}
use Rattle.conf_text.specs.Laws.{RefusesLines}
use Rattle.conf_text.specs.Steps.{read_so_far}
use Rattle.conf_text.proofs.ReadLaws.{error_so, read_next_line, read_refused, read_whole}
use Rattle.conf_text.proofs.reading.read_lines.Goals as goal

pub returns-in_err-read_line-clause-bad : goal.returns-in_err-read_line-clause-bad
returns-in_err-read_line-clause-bad c =
    error_so c.from_residual.result c.in_err-read_line.field-0.0 (RefusesLines (map shown_line c.args.lines.now)) c.from_residual.ensures.1
    (read_refused c.args.lines.now c.lines.line-index _
    (read_so_far c.lines.reader) c.in_err-read_line.field-0.0 c.lines-test.true c.lines.invariant c.in_err-read_line.ensures.bad)

pub returns-clause-found : goal.returns-clause-found
returns-clause-found c = read_whole c.args.lines.now c.lines.line-index (read_so_far c.lines.reader) c.lines-test.false c.lines.invariant

pub lines-preserved : goal.lines-preserved
lines-preserved c =
    read_next_line c.args.lines.now c.lines.line-index _ (read_so_far c.lines.reader)
    (read_so_far c.read_line.new.self) c.lines-test.true c.lines.invariant c.in_ok-read_line.ensures.ok
