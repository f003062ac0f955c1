use Rattle.client_model.proofs.KeptTexts6.{is_reading6}
use Rattle.client_model.proofs.laws.kept_texts_are_leases6.Goals as goal

pub returns : goal.returns
returns c = is_reading6
