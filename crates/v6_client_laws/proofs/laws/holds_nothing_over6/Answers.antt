use Rattle.v6_client_laws.proofs.Lapsing.{holds_nothing_over}
use Rattle.v6_client_laws.proofs.laws.holds_nothing_over6.Goals as goal

pub returns : goal.returns
returns c = holds_nothing_over
