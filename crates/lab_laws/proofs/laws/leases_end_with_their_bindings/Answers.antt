use Rattle.lab_laws.proofs.Bindings.{leases_end_with_bindings}
use Rattle.lab_laws.proofs.laws.leases_end_with_their_bindings.Goals as goal

pub returns : goal.returns
returns c = leases_end_with_bindings
