use Rattle.made_script.proofs.GoodConfLaws.{conf_is_good}
use Rattle.made_script.proofs.laws.made_configuration_is_good.Goals as goal

pub returns : goal.returns
returns c = conf_is_good
