use Rattle.std.proofs.Common.{map, length}
use Rattle.conf_words.specs.Directives.{shown_line}
use Rattle.conf_words.proofs.ReadingLaws.{ReadSoFar}
use Rattle.conf_words.proofs.reading.read.Given as goal

abbrev pub invariant-lines : goal.invariant-lines
invariant-lines l = ReadSoFar l.text l.rest l.number (map shown_line l.lines.items)

abbrev pub decreases-lines : goal.decreases-lines
decreases-lines l = length l.rest
