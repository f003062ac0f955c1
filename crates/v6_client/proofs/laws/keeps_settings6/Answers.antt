use Rattle.v6_client.proofs.SettingsStay.{settings_stay}
use Rattle.v6_client.proofs.laws.keeps_settings6.Goals as goal

pub returns : goal.returns
returns c = settings_stay
