use Rattle.std.specs.Prelude.{map}
use Rattle.client_model.specs.Fitting.{AreBeginnings}
use Rattle.client_core.specs.IfaceMachines.Beginnings.{beginning_of}
use Rattle.daemon_tests.proofs.client_core_cases.beginnings.Given as goal

abbrev pub invariant-numbers : goal.invariant-numbers
invariant-numbers l = AreBeginnings (map beginning_of l.all.items)
