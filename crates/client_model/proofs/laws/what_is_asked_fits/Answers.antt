use Rattle.client_model.proofs.AskFitting.{ask_fits}
use Rattle.client_model.proofs.laws.what_is_asked_fits.Goals as goal

pub returns : goal.returns
returns c = ask_fits
