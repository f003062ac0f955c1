use Rattle.v4_client.proofs.Probed.{probes_first}
use Rattle.v4_client.proofs.laws.probes_first.Goals as goal

pub returns : goal.returns
returns c = probes_first
