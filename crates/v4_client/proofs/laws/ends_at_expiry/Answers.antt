use Rattle.v4_client.proofs.Expiring.{ends_at_expiry}
use Rattle.v4_client.proofs.laws.ends_at_expiry.Goals as goal

pub returns : goal.returns
returns c = ends_at_expiry
