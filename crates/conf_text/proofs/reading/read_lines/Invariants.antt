use Rattle.std.proofs.Common.{map, drop}
use Rattle.conf_words.specs.Directives.{shown_line}
use Rattle.conf_text.specs.Steps.{read_so_far}
use Rattle.conf_text.proofs.StepLaws.{Follows}
use Rattle.conf_text.proofs.reading.read_lines.Given as goal

abbrev pub invariant-lines : goal.invariant-lines
invariant-lines l = Follows (map shown_line l.lines) (map shown_line (drop l.line-index l.lines)) (read_so_far l.reader)
