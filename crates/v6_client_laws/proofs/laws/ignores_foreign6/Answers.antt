use Rattle.v6_client_laws.proofs.Granting.{ignores_foreign}
use Rattle.v6_client_laws.proofs.laws.ignores_foreign6.Goals as goal

pub returns : goal.returns
returns c = ignores_foreign
