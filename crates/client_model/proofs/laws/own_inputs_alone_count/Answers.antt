use Rattle.client_model.proofs.OwnTurns.{alike}
use Rattle.client_model.proofs.laws.own_inputs_alone_count.Goals as goal

pub returns : goal.returns
returns c = alike
