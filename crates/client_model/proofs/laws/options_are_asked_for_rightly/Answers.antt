use Rattle.client_model.proofs.AskedOptions.{asks_rightly}
use Rattle.client_model.proofs.laws.options_are_asked_for_rightly.Goals as goal

pub returns : goal.returns
returns c = asks_rightly
