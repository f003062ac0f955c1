use Rattle.client_core.specs.Resting.{Finds}
use Rattle.client_core.proofs.Calling.{up_to}
use Rattle.client_core.proofs.resting.unsent_places.Given as goal

abbrev pub invariant-indices : goal.invariant-indices
invariant-indices l = Finds (up_to l.unsent l.before) l.named l.places
