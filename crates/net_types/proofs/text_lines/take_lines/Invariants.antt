use Rattle.std.proofs.Common.{length}
use Rattle.net_types.specs.LineReading.{Took}
use Rattle.net_types.proofs.text_lines.take_lines.Given as goal

abbrev pub invariant-lines : goal.invariant-lines
invariant-lines g l = Took g.T.LineState.step (g.T.LineState.state l.fn.start) l.text l.rest l.line (g.T.LineState.state l.state)

abbrev pub decreases-lines : goal.decreases-lines
decreases-lines g l = length l.rest
