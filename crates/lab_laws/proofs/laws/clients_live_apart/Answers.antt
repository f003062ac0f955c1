use Rattle.lab_laws.proofs.Apart as apart
use Rattle.lab_laws.proofs.laws.clients_live_apart.Goals as goal

pub returns : goal.returns
returns c = apart.clients_live_apart
