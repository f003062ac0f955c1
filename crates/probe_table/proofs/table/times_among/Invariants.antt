use Rattle.std.proofs.Common.{◌≡◌, drop}
use Rattle.probe_table.specs.Table.{times_at}
use Rattle.probe_table.proofs.table.times_among.Given as goal

abbrev pub invariant-loop-probing : goal.invariant-loop-probing
invariant-loop-probing l = times_at (drop l.probing-index l.probings) l.addr ≡ times_at l.probings l.addr
