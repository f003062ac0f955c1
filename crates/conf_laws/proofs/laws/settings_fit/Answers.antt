use Rattle.conf_laws.proofs.ConfFits.{settings_fit}
use Rattle.conf_laws.proofs.laws.settings_fit.Goals as goal

pub returns : goal.returns
returns c = settings_fit
