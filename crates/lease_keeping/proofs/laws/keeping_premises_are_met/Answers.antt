use Rattle.lease_keeping.proofs.ReboundLife.{rebound_life}
use Rattle.lease_keeping.proofs.RenewedLife.{renewed_life}
use Rattle.lease_keeping.proofs.laws.keeping_premises_are_met.Goals as goal

pub returns : goal.returns
returns c = record { renewed = renewed_life; rebound = rebound_life }
