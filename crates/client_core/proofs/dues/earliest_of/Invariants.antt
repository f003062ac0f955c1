use Rattle.std.proofs.Common.{◌≡◌, drop}
use Rattle.client_model.specs.Clients.{client_due, earlier}
use Rattle.client_core.proofs.dues.earliest_of.Given as goal

abbrev pub invariant-loop-iface : goal.invariant-loop-iface
invariant-loop-iface l = earlier l.first (client_due (drop l.iface-index l.ifaces)) ≡ client_due l.ifaces
