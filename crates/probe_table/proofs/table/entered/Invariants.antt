use Rattle.std.proofs.Common.{take}
use Rattle.probe_table.specs.Table.{AreEntered}
use Rattle.probe_table.proofs.table.entered.Given as goal

abbrev pub invariant-loop-target : goal.invariant-loop-target
invariant-loop-target l = AreEntered l.initial.probings.items (take l.target-index l.targets) l.probings.items
