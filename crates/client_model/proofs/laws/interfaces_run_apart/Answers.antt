use Rattle.client_model.proofs.Apart.{apart}
use Rattle.client_model.proofs.laws.interfaces_run_apart.Goals as goal

pub returns : goal.returns
returns c = apart
