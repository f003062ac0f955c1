use Rattle.lab_laws.proofs.Bindings.{no_address_twice}
use Rattle.lab_laws.proofs.laws.no_address_is_held_twice.Goals as goal

pub returns : goal.returns
returns c = no_address_twice
