use Rattle.v4_client.proofs.Standing.{stands_alone}
use Rattle.v4_client.proofs.laws.stands_alone.Goals as goal

pub returns : goal.returns
returns c = stands_alone
