use Rattle.client_model.proofs.KeptTexts.{is_reading}
use Rattle.client_model.proofs.laws.kept_texts_are_leases.Goals as goal

pub returns : goal.returns
returns c = is_reading
