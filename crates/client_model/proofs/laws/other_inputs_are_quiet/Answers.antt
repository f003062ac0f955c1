use Rattle.client_model.proofs.Elsewhere.{elsewhere}
use Rattle.client_model.proofs.laws.other_inputs_are_quiet.Goals as goal

pub returns : goal.returns
returns c = elsewhere
