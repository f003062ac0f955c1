use Rattle.std.proofs.Common.{◌≡◌, ◌≤◌, take, map}
use Rattle.transcript_summary.specs.Summaries.{counted}
use Rattle.transcript_summary.proofs.counting.count.Given as goal

abbrev pub invariant-loop-line : goal.invariant-loop-line
invariant-loop-line l = (l.count ≡ counted l.fn.start (map (λ line. line.now) (take l.line-index l.lines))) × (l.count ≤ l.line-index)
