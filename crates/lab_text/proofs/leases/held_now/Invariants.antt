-- What was found, and what is left to look at.
use Rattle.std.proofs.Common.{◌≡◌, ◌++◌, drop, map}
use Rattle.lab_model.specs.LabLines.{lease_lines}
use Rattle.lab_text.specs.HeldLeases.{line_of}
use Rattle.lab_text.proofs.leases.held_now.Given as goal

abbrev pub invariant-loop-iface : goal.invariant-loop-iface
invariant-loop-iface l = map line_of l.all.items ++ lease_lines (drop l.iface-index l.ifaces) ≡ lease_lines l.ifaces
