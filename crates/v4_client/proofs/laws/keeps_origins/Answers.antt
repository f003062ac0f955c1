use Rattle.v4_client.proofs.Origins.{keeps_origins}
use Rattle.v4_client.proofs.laws.keeps_origins.Goals as goal

pub returns : goal.returns
returns c = keeps_origins
