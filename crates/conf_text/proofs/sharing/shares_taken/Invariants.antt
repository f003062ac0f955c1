use Rattle.std.proofs.Common.{◌≡◌, take}
use Rattle.conf_text.specs.Shares.{shares_taken}
use Rattle.conf_text.proofs.sharing.shares_taken.Given as goal

abbrev pub invariant-loop-line : goal.invariant-loop-line
invariant-loop-line l = l.taken.items ≡ shares_taken l.ifaces l.hint (take l.line-index l.lines)
