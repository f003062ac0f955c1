use Rattle.lease_keeping.proofs.Keeping.{holds_meanwhile, stays_held}
use Rattle.lease_keeping.proofs.laws.leases_stay_held.Goals as goal

pub returns : goal.returns
returns c = record { stays = stays_held; meanwhile = holds_meanwhile }
