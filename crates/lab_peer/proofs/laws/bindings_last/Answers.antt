use Rattle.lab_peer.proofs.Bound.{stays_bound, keeps_its_pool}
use Rattle.lab_peer.proofs.laws.bindings_last.Goals as goal

pub returns-clause-lasts : goal.returns-clause-lasts
returns-clause-lasts c = stays_bound

pub returns-clause-pool : goal.returns-clause-pool
returns-clause-pool c = keeps_its_pool
