use Rattle.conf_laws.proofs.OneLaws.{configuration_one}
use Rattle.conf_laws.proofs.laws.configuration_is_one.Goals as goal

pub returns : goal.returns
returns c = configuration_one
