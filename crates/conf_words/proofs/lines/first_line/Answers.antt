use Rattle.std.proofs.Common.{sym}
use Rattle.conf_words.proofs.LineLaws.{line_sound, line_none}
use Rattle.conf_words.proofs.lines.first_line.Goals as goal

pub returns-in-Some-clause-line : goal.returns-in-Some-clause-line
returns-in-Some-clause-line c = line_sound c.args.text.now c.in-Some.line.now c.in-Some.rest.now (sym c.in-Some.ensures)

pub returns-in-None-clause-end : goal.returns-in-None-clause-end
returns-in-None-clause-end c = line_none c.args.text.now (sym c.in-None.ensures)
