use Rattle.v4_client.proofs.Foreign.{ignores_foreign}
use Rattle.v4_client.proofs.laws.ignores_foreign.Goals as goal

pub returns : goal.returns
returns c = ignores_foreign
