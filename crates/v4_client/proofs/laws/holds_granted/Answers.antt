use Rattle.v4_client.proofs.Granted.{holds_granted}
use Rattle.v4_client.proofs.laws.holds_granted.Goals as goal

pub returns : goal.returns
returns c = holds_granted
